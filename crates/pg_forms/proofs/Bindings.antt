-- Binders are told one after the other, and the name before them.
use Rattle.std.proofs.Common.{◌≡◌, ◌∙◌, ℕ, suc, ◌-◌, ◌+◌, ◌<◌, Bool, true, false, List, [], ◌∷◌, ◌++◌, length, Option, None, Some, if◌then◌else◌, refl, ap, sym, append_assoc, map, arith}
use Rattle.std.proofs.lemmas.List.{map-append, append-nil}
use Rattle.pg_base.specs.Tokens.{Word}
use Rattle.pg_gametext.specs.Commands.{is_plain, is_text}
use Rattle.pg_gametext.specs.Forms.{Taken, Told, BinderText as Binder, StatementText, variables, is_open, is_nat, token_taken, names_taken, binder_named, binder_typed, binder_closed, hypothesis_named, with_binder, binders_taken, statement_name, statement_told, statement_binders}
use Rattle.pg_forms.specs.declared.parts.BinderText.{BinderText}
use Rattle.pg_forms.specs.View.{binder}
use Rattle.pg_forms.specs.Binders.{Told_on, binder_at, optional_taken, with_binders}

abbrev pub after_name : ℕ → Taken (Option Word) → Told StatementText
after_name end t = statement_binders end t.value (binders_taken (length t.rest) end t.rest)

name_cases : (end : ℕ) (w : Word) (ws : List Word) (plain : Bool)
    → (if plain then statement_binders end (Some w) (binders_taken (length ws) end ws) else statement_binders end None (binders_taken (length (w ∷ ws)) end (w ∷ ws)))
    ≡ after_name end (if plain then record { value = Some w; stuck = None; rest = ws } else record { value = None; stuck = None; rest = w ∷ ws })
name_cases end w ws true = refl
name_cases end w ws false = refl

pub name_told : (end : ℕ) (ws : List Word) → statement_name end ws ≡ after_name end (optional_taken is_plain ws)
name_told end [] = refl
name_told end (w ∷ ws) = name_cases end w ws (is_plain w)

abbrev pub after_text : ℕ → Taken (Option Word) → Told StatementText
after_text end t = statement_name end t.rest

text_cases : (end : ℕ) (w : Word) (ws : List Word) (text : Bool)
    → (if text then statement_name end ws else statement_name end (w ∷ ws)) ≡ after_text end (if text then record { value = Some w; stuck = None; rest = ws } else record { value = None; stuck = None; rest = w ∷ ws })
text_cases end w ws true = refl
text_cases end w ws false = refl

pub text_told : (end : ℕ) (ws : List Word) → statement_told end ws ≡ after_text end (optional_taken is_text ws)
text_told end [] = refl
text_told end (w ∷ ws) = text_cases end w ws (is_text w)

typed_by : ℕ → List Word → Told_on → List Word → Taken (Option Word) → Taken (List Binder)
typed_by end names more ws t = elim t.value [ Some w ↦ binder_closed end (variables names) more t.rest | None ↦ hypothesis_named end names more ws ]

typed_cases : (end : ℕ) (names : List Word) (more : Told_on) (w : Word) (ws : List Word) (nat : Bool)
    → (if nat then binder_closed end (variables names) more ws else hypothesis_named end names more (w ∷ ws))
    ≡ typed_by end names more (w ∷ ws) (if nat then record { value = Some w; stuck = None; rest = ws } else record { value = None; stuck = Some w.at; rest = [] })
unfolding typed_by
typed_cases end names more w ws true = refl
typed_cases end names more w ws false = refl

typed : (end : ℕ) (names : List Word) (more : Told_on) (ws : List Word) → binder_typed end names more ws ≡ typed_by end names more ws (token_taken is_nat end ws)
unfolding typed_by
typed end names more [] = refl
typed end names more (w ∷ ws) = typed_cases end names more w ws (is_nat w)

pub typed_nat : (end : ℕ) (names : List Word) (more : Told_on) (ws rest : List Word) (w : Word)
    → token_taken is_nat end ws ≡ record { value = Some w; stuck = None; rest = rest } → binder_typed end names more ws ≡ binder_closed end (variables names) more rest
unfolding typed_by
typed_nat end names more ws rest w is = typed end names more ws ∙ ap (typed_by end names more ws) is

pub typed_other : (end : ℕ) (names : List Word) (more : Told_on) (ws : List Word) (at : ℕ)
    → token_taken is_nat end ws ≡ record { value = None; stuck = Some at; rest = [] } → binder_typed end names more ws ≡ hypothesis_named end names more ws
unfolding typed_by
typed_other end names more ws at is = typed end names more ws ∙ ap (typed_by end names more ws) is

opened_by : ℕ → Told_on → List Word → Taken (Option Word) → Taken (List Binder)
opened_by end more ws t = elim t.value [ Some w ↦ binder_named end (names_taken end t.rest) more | None ↦ record { value = []; stuck = None; rest = ws } ]

opened_cases : (end : ℕ) (more : Told_on) (w : Word) (ws : List Word) (open_ : Bool)
    → (if open_ then binder_named end (names_taken end ws) more else record { value = []; stuck = None; rest = w ∷ ws })
    ≡ opened_by end more (w ∷ ws) (if open_ then record { value = Some w; stuck = None; rest = ws } else record { value = None; stuck = Some w.at; rest = [] })
unfolding opened_by
opened_cases end more w ws true = refl
opened_cases end more w ws false = refl

opened : (end : ℕ) (more : Told_on) (ws : List Word) → binder_at end ws more ≡ opened_by end more ws (token_taken is_open end ws)
unfolding opened_by
opened end more [] = refl
opened end more (w ∷ ws) = opened_cases end more w ws (is_open w)

pub opened_here : (end : ℕ) (more : Told_on) (ws rest : List Word) (w : Word)
    → token_taken is_open end ws ≡ record { value = Some w; stuck = None; rest = rest } → binder_at end ws more ≡ binder_named end (names_taken end rest) more
unfolding opened_by
opened_here end more ws rest w is = opened end more ws ∙ ap (opened_by end more ws) is

pub not_opened : (end : ℕ) (more : Told_on) (ws : List Word) (at : ℕ)
    → token_taken is_open end ws ≡ record { value = None; stuck = Some at; rest = [] } → binder_at end ws more ≡ record { value = []; stuck = None; rest = ws }
unfolding opened_by
not_opened end more ws at is = opened end more ws ∙ ap (opened_by end more ws) is

one_binder : (turns end : ℕ) (ws : List Word) → binders_taken (suc turns) end ws ≡ binder_at end ws (binders_taken turns end)
one_binder turns end [] = refl
one_binder turns end (w ∷ ws) = refl

left : (all turn : ℕ) → turn < all → all - turn ≡ suc (all - (turn + 1))
left all turn lt = omega (arith, lt)

-- where so many turns are left, one of them
pub step : (all turn end : ℕ) (ws : List Word) → turn < all → binders_taken (all - turn) end ws ≡ binder_at end ws (binders_taken (all - (turn + 1)) end)
step all turn end ws lt = ap (λ n. binders_taken n end ws) (left all turn lt) ∙ one_binder (all - (turn + 1)) end ws

-- the last turn
pub ends : (all turn end : ℕ) (ws : List Word) (bs : List Binder) (last told : Taken (List Binder))
    → with_binders bs (binders_taken (all - turn) end ws) ≡ told → turn < all → binder_at end ws (binders_taken (all - (turn + 1)) end) ≡ last → told ≡ with_binders bs last
ends all turn end ws bs last told inv lt is = sym inv ∙ ap (with_binders bs) (step all turn end ws lt ∙ is)

pub none_more : (bs : List Binder) (stuck : Option ℕ) (rest : List Word) → with_binders bs (record { value = []; stuck = stuck; rest = rest }) ≡ record { value = bs; stuck = stuck; rest = rest }
none_more bs stuck rest = ap (λ xs. record { value = xs; stuck = stuck; rest = rest }) (append-nil bs)

pub pushed : (xs ys : List BinderText) (b : BinderText) (t : Taken (List Binder)) → ys ≡ xs ++ b ∷ [] → with_binders (map binder xs) (with_binder (binder b) t) ≡ with_binders (map binder ys) t
pushed xs ys b t is =
    sym (ap (λ zs. with_binders (map binder zs) t) is ∙ ap (λ zs. with_binders zs t) (map-append binder xs (b ∷ []))
    ∙ ap (λ zs. record { value = zs; stuck = t.stuck; rest = t.rest }) (append_assoc (map binder xs) (binder b ∷ []) t.value))

-- one binder more
pub more_binders : (all turn end : ℕ) (ws rest : List Word) (xs ys : List BinderText) (b : BinderText) (told : Taken (List Binder))
    → with_binders (map binder xs) (binders_taken (all - turn) end ws) ≡ told → turn < all
    → binder_at end ws (binders_taken (all - (turn + 1)) end) ≡ with_binder (binder b) (binders_taken (all - (turn + 1)) end rest)
    → ys ≡ xs ++ b ∷ []
    → with_binders (map binder ys) (binders_taken (all - (turn + 1)) end rest) ≡ told
more_binders all turn end ws rest xs ys b told inv lt is ys_is =
    sym (pushed xs ys b (binders_taken (all - (turn + 1)) end rest) ys_is)
    ∙ sym (ends all turn end ws (map binder xs) (with_binder (binder b) (binders_taken (all - (turn + 1)) end rest)) told inv lt is)
