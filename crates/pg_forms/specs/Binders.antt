-- The parts of a statement that are read one after the other.
use Rattle.std.specs.Prelude.{ℕ, Bool, List, [], ◌∷◌, ◌++◌, Option, Some, None, option_map, Result, Ok, Err, if◌then◌else◌}
use Rattle.std.specs.Borrow.{Bor}
use Rattle.pg_base.specs.declared.token.Token.{Token}
use Rattle.pg_base.specs.Tokens.{Word}
use Rattle.pg_script.specs.View.{words}
use Rattle.pg_gametext.specs.Forms.{Taken, Told, BinderText as Binder, StatementText, is_open, names_taken, binders_stuck, with_binder, binder_closed, binder_named}
use Rattle.pg_forms.specs.declared.parts.BinderText.{BinderText}
use Rattle.pg_forms.specs.declared.statement.Turn.{Turn}
use Rattle.pg_forms.specs.declared.statement.Turn.TheVariants.{NoBinder, Stuck, Unclosed, Closed}
use Rattle.pg_forms.specs.declared.statement.Claim.{Claim}
use Rattle.pg_forms.specs.View.{binder, part}

-- a token of a kind at the front, or none
abbrev pub optional_taken : (Word → Bool) → List Word → Taken (Option Word)
optional_taken good [] = record { value = None; stuck = None; rest = [] }
optional_taken good (w ∷ ws) = if good w then record { value = Some w; stuck = None; rest = ws } else record { value = None; stuck = None; rest = w ∷ ws }

-- what is told of binders, of which these tokens are the first; more tells of what stands behind the first
abbrev pub Told_on : Type 0
Told_on = List Word → Taken (List Binder)

abbrev pub binder_at : ℕ → List Word → Told_on → Taken (List Binder)
binder_at end [] more = record { value = []; stuck = None; rest = [] }
binder_at end (w ∷ ws) more = if is_open w then binder_named end (names_taken end ws) more else record { value = []; stuck = None; rest = w ∷ ws }

abbrev pub turned : List Word → Told_on → Turn → Taken (List Binder)
turned ws more NoBinder = record { value = []; stuck = None; rest = ws }
turned ws more (Stuck at) = binders_stuck at
turned ws more (Unclosed b at) = with_binder (binder b) (binders_stuck at)
turned ws more (Closed b rest) = with_binder (binder b) (more (words rest.now))

-- a binder up to its closing parenthesis, or the place where it does not go on
abbrev pub closed : ℕ → Told_on → Result (BinderText × Bor (List Token)) ℕ → Taken (List Binder)
closed end more (Ok p) = binder_closed end (binder p.0) more (words p.1.now)
closed end more (Err at) = binders_stuck at

-- binders, and those behind them
abbrev pub with_binders : List Binder → Taken (List Binder) → Taken (List Binder)
with_binders bs t = record { value = bs ++ t.value; stuck = t.stuck; rest = t.rest }

-- a statement with this target and block
abbrev pub with_claim : Option Word → List Binder → Claim → Option ℕ → Told StatementText
with_claim name binders claim stuck = record { value = record { name = name; binders = binders; target = option_map part claim.target; block = option_map part claim.block }; stuck = stuck }
