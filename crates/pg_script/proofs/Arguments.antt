-- Arguments are read one after the other.
use Rattle.std.proofs.Common.{◌≡◌, ◌∙◌, ℕ, zero, suc, ◌-◌, ◌<◌, ◌≤◌, List, [], ◌∷◌, ◌++◌, length, drop, refl, sym, ap, arith, append_assoc, Ok, Err}
use Rattle.std.proofs.Math.Dec.{eqb-suc-zero}
use Rattle.std.specs.Prelude.{cond}
use Rattle.std.proofs.lemmas.List.{length-map}
use Rattle.pg_base.specs.declared.token.Token.{Token}
use Rattle.pg_base.specs.Tokens.{Word, word}
use Rattle.pg_script.specs.View.{words}
use Rattle.pg_script.specs.Data.{Part}
use Rattle.pg_script.specs.declared.fault.ScriptFault.{ScriptFault}
use Rattle.pg_script.specs.Lines.{Read, with_first, before, part_of, arg_length, arg_step, args_from}
use Rattle.pg_script.specs.Joined.{joined, appended}

pub joined_first : {V : Type 0} (xs : List V) (x : V) (r : Read (List V × List Word)) → joined xs (with_first x r) ≡ joined (xs ++ x ∷ []) r
joined_first xs x (Ok (ys, rest)) = ap (λ zs. Ok (zs, rest)) (sym (append_assoc xs (x ∷ []) ys))
joined_first xs x (Err e) = refl

pub appended_first : {V : Type 0} (xs : List V) (x : V) (r : Read (List V)) → appended xs (before x r) ≡ appended (xs ++ x ∷ []) r
appended_first xs x (Ok ys) = ap Ok (sym (append_assoc xs (x ∷ []) ys))
appended_first xs x (Err e) = refl

args-skip : (end depth n : ℕ) (ws : List Word) → args_from end depth n ws ≡ args_from end depth 0 (drop n ws)
args-skip end depth zero ws = refl
args-skip end depth (suc n) [] = refl
args-skip end depth (suc n) (w ∷ ws) = args-skip end depth n ws

step : (end depth n : ℕ) (ws : List Word) → 0 < n → n ≤ length ws → arg_length end depth ws ≡ Ok n
    → args_from end depth 0 ws ≡ with_first (part_of end n ws) (args_from end depth 0 (drop n ws))
step end depth zero ws some within is = absurd (omega (arith, some))
step end depth (suc n) [] some within is = absurd (omega (arith, within))
step end depth (suc n) (w ∷ ws) some within is =
    ap (λ r. arg_step end (w ∷ ws) (λ k. args_from end depth (k - 1) ws) r) is
    ∙ ap (λ b. cond b (Ok ([], w ∷ ws)) (with_first (part_of end (suc n) (w ∷ ws)) (args_from end depth (suc n - 1) ws))) (eqb-suc-zero n)
    ∙ ap (with_first (part_of end (suc n) (w ∷ ws))) ((let e : suc n - 1 ≡ n = omega arith in ap (λ k. args_from end depth k ws) e) ∙ args-skip end depth n ws)

-- one argument more
pub args_turn : (end depth n : ℕ) (ws : List Word) (ps : List Part) → 0 < n → n ≤ length ws → arg_length end depth ws ≡ Ok n
    → joined (ps ++ part_of end n ws ∷ []) (args_from end depth 0 (drop n ws)) ≡ joined ps (args_from end depth 0 ws)
args_turn end depth n ws ps some within is = sym (ap (joined ps) (step end depth n ws some within is) ∙ joined_first ps (part_of end n ws) (args_from end depth 0 (drop n ws)))

pub args_end : (end depth : ℕ) (ws : List Word) → arg_length end depth ws ≡ Ok 0 → args_from end depth 0 ws ≡ Ok ([], ws)
args_end end depth [] is = refl
args_end end depth (w ∷ ws) is = ap (λ r. arg_step end (w ∷ ws) (λ k. args_from end depth (k - 1) ws) r) is

pub args_fault : (end depth : ℕ) (ws : List Word) (e : ScriptFault) → arg_length end depth ws ≡ Err e → args_from end depth 0 ws ≡ Err e
args_fault end depth [] e is = cc
args_fault end depth (w ∷ ws) e is = ap (λ r. arg_step end (w ∷ ws) (λ k. args_from end depth (k - 1) ws) r) is

-- the same of tokens that were read, and of the arguments with one more
pub turned : (end depth n : ℕ) (ts : List Token) (rest : List Word) (ps qs : List Part) (p : Part) → (n ≡ 0 → ⊥) → n ≤ length ts → arg_length end depth (words ts) ≡ Ok n
    → p ≡ part_of end n (words ts) → rest ≡ drop n (words ts) → qs ≡ ps ++ p ∷ []
    → joined qs (args_from end depth 0 rest) ≡ joined ps (args_from end depth 0 (words ts))
turned end depth n ts rest ps qs p some within is p_is rest_is qs_is =
    ap (λ xs. joined xs (args_from end depth 0 rest)) (qs_is ∙ ap (λ x. ps ++ x ∷ []) p_is)
    ∙ ap (λ xs. joined (ps ++ part_of end n (words ts) ∷ []) (args_from end depth 0 xs)) rest_is
    ∙ args_turn end depth n (words ts) ps (omega (arith, some)) (omega (arith, within, length-map ts word)) is
