-- Links are told one after the other.
use Rattle.std.proofs.Common.{◌≡◌, ◌∙◌, ℕ, Bool, true, false, List, [], ◌∷◌, ◌++◌, Option, None, Some, if◌then◌else◌, refl, ap, sym, append_assoc, map}
use Rattle.std.proofs.lemmas.List.{map-append, append-nil}
use Rattle.std.specs.Borrow.{Bor}
use Rattle.pg_base.specs.declared.token.Token.{Token}
use Rattle.pg_base.specs.Tokens.{Word, word}
use Rattle.pg_script.specs.View.{words}
use Rattle.pg_gametext.specs.Commands.{is_plain}
use Rattle.pg_gametext.specs.Forms.{Taken, Told, Link, with_link, links_after, links_told, is_arrow, token_taken}
use Rattle.pg_forms.specs.declared.parts.Link.{Link as RustLink}
use Rattle.pg_forms.specs.View.{link}
use Rattle.pg_forms.specs.Links.{are_ended, world_behind, second_world, links_on, with_links}

links_end : (some : Bool) (end : ℕ) (a : Word) (ws : List Word) → are_ended some ws ≡ true → links_after some end a ws ≡ record { value = []; stuck = None }
links_end true end a [] is = refl
links_end false end a [] is = cc
links_end some end a (w ∷ ws) is = cc

one_left : (end : ℕ) (a s : Word) (arrow : Bool)
    → record { value = []; stuck = Some (if arrow then end else s.at) } ≡ links_on a end (world_behind end (if arrow then record { value = Some s; stuck = None; rest = [] } else record { value = None; stuck = Some s.at; rest = [] }))
one_left end a s true = refl
one_left end a s false = refl

two_left : (end : ℕ) (a s b : Word) (ws : List Word) (arrow plain : Bool)
    → (if arrow then (if plain then with_link (record { before = a; after = b }) (links_after true end b ws) else record { value = []; stuck = Some b.at }) else record { value = []; stuck = Some s.at })
    ≡ links_on a end (elim arrow as (λ _. Taken (Option Word)) [
      | true ↦ (if plain then record { value = Some b; stuck = None; rest = ws } else record { value = None; stuck = Some b.at; rest = [] })
      | false ↦ record { value = None; stuck = Some s.at; rest = [] }
    ])
two_left end a s b ws true true = refl
two_left end a s b ws true false = refl
two_left end a s b ws false plain = refl

two_taken : (end : ℕ) (s b : Word) (ws : List Word) (arrow : Bool)
    → (elim arrow as (λ _. Taken (Option Word)) [
      | true ↦ (if is_plain b then record { value = Some b; stuck = None; rest = ws } else record { value = None; stuck = Some b.at; rest = [] })
      | false ↦ record { value = None; stuck = Some s.at; rest = [] }
    ])
    ≡ world_behind end (if arrow then record { value = Some s; stuck = None; rest = b ∷ ws } else record { value = None; stuck = Some s.at; rest = [] })
two_taken end s b ws true = refl
two_taken end s b ws false = refl

pub links_step : (some : Bool) (end : ℕ) (a : Word) (ws : List Word) → are_ended some ws ≡ false → links_after some end a ws ≡ links_on a end (second_world end ws)
links_step true end a [] is = cc
links_step false end a [] is = refl
links_step some end a (s ∷ []) is = one_left end a s (is_arrow s)
links_step some end a (s ∷ b ∷ ws) is = two_left end a s b ws (is_arrow s) (is_plain b) ∙ ap (links_on a end) (two_taken end s b ws (is_arrow s))

-- one link more
pub links_turn : (some : Bool) (end : ℕ) (a : Word) (ws : List Word) (b : Token) (rest : Bor (List Token)) (xs ys : List RustLink) (l : RustLink) (all : Told (List Link))
    → with_links (map link xs) (links_after some end a ws) ≡ all → are_ended some ws ≡ false → second_world end ws ≡ record { value = Some (word b); stuck = None; rest = words rest.now }
    → ys ≡ xs ++ l ∷ [] → link l ≡ record { before = a; after = word b }
    → with_links (map link ys) (links_after true end (word b) (words rest.now)) ≡ all
links_turn some end a ws b rest xs ys l all inv more next ys_is l_is =
    let after = links_after true end (word b) (words rest.now) in
    let first : Link = record { before = a; after = word b } in
    ap (λ zs. with_links (map link zs) after) ys_is
    ∙ ap (λ zs. with_links zs after) (map-append link xs (l ∷ []) ∙ ap (λ x. map link xs ++ x ∷ []) l_is)
    ∙ ap (λ zs. record { value = zs; stuck = after.stuck }) (append_assoc (map link xs) (first ∷ []) after.value)
    ∙ sym (ap (with_links (map link xs)) (links_step some end a ws more ∙ ap (links_on a end) next))
    ∙ inv

-- no further link
pub links_stuck : (some : Bool) (end at : ℕ) (a : Word) (ws : List Word) (ls : List Link) (all : Told (List Link))
    → with_links ls (links_after some end a ws) ≡ all → are_ended some ws ≡ false → second_world end ws ≡ record { value = None; stuck = Some at; rest = [] }
    → all ≡ record { value = ls; stuck = Some at }
links_stuck some end at a ws ls all inv more next =
    sym inv ∙ ap (with_links ls) (links_step some end a ws more ∙ ap (links_on a end) next) ∙ ap (λ zs. record { value = zs; stuck = Some at }) (append-nil ls)

pub links_done : (some : Bool) (end : ℕ) (a : Word) (ws : List Word) (ls : List Link) (all : Told (List Link))
    → with_links ls (links_after some end a ws) ≡ all → are_ended some ws ≡ true → all ≡ record { value = ls; stuck = None }
links_done some end a ws ls all inv last =
    sym inv ∙ ap (with_links ls) (links_end some end a ws last) ∙ ap (λ zs. record { value = zs; stuck = None }) (append-nil ls)

links_from : ℕ → Taken (Option Word) → Told (List Link)
links_from end t = elim t.value [ None ↦ record { value = []; stuck = t.stuck } | Some a ↦ links_after false end a t.rest ]

begun : (end : ℕ) (a : Word) (ws : List Word) (plain : Bool)
    → (if plain then links_after false end a ws else record { value = []; stuck = Some a.at }) ≡ links_from end (if plain then record { value = Some a; stuck = None; rest = ws } else record { value = None; stuck = Some a.at; rest = [] })
unfolding links_from
begun end a ws true = refl
begun end a ws false = refl

-- the links of tokens that begin with a world
pub links_begun : (end : ℕ) (ws rest : List Word) (a : Word) → token_taken is_plain end ws ≡ record { value = Some a; stuck = None; rest = rest } → links_told end ws ≡ links_after false end a rest
unfolding links_from
links_begun end [] rest a is = ap (links_from end) is
links_begun end (w ∷ ws) rest a is = begun end w ws (is_plain w) ∙ ap (links_from end) is
