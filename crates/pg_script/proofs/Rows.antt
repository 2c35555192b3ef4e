-- Two moves by their forms, worked: `rw [← add_zero x, h] at h2` and `have h : a = b := e`.
use Rattle.std.proofs.Common.{ℕ, false, true, List, [], ◌∷◌, refl, arith, Some}
use Rattle.std.specs.Prelude.{codes}
use Rattle.pg_base.specs.declared.token.Sign.{Sign}
use Rattle.pg_base.specs.declared.token.Sign.TheVariants as sign
use Rattle.pg_base.specs.declared.token.TokenKind.TheVariants as kind
use Rattle.pg_base.specs.Tokens.{Word}
use Rattle.pg_script.specs.declared.span.Until.TheVariants as until
use Rattle.pg_script.specs.Data.{Expression, rewrite, have, Step}
use Rattle.pg_script.specs.Forms.{no_token, a_token, piece, a_name, no_argument, argument, applied, at_name, forwards, backwards, AreRules, last_rule, more_rules, a_rewrite, a_have_of, IsMove}

abbrev name : ℕ → List ℕ → Word
name at text = record { kind = kind.Name; text = text; at = at; column = at; first = false }

abbrev a_sign : ℕ → Sign → Word
a_sign at s = record { kind = kind.Sign s; text = []; at = at; column = at; first = false }

abbrev alone : Word → Expression
alone w = record { name = w; args = [] }

-- ---- `rw [← add_zero x, h] at h2`

abbrev rw_word : Word
rw_word = name 0 (codes "rw")

abbrev add_zero : Word
add_zero = name 6 (codes "add_zero")

abbrev arg_x : Word
arg_x = name 15 (codes "x")

abbrev rule_h : Word
rule_h = name 18 (codes "h")

abbrev place_h2 : Word
place_h2 = name 24 (codes "h2")

abbrev rw_tokens : List Word
rw_tokens = a_sign 3 sign.OpenBracket ∷ a_sign 4 sign.LeftArrow ∷ add_zero ∷ arg_x ∷ a_sign 16 sign.Comma ∷ rule_h ∷ a_sign 19 sign.CloseBracket ∷ name 21 (codes "at") ∷ place_h2 ∷ []

abbrev applied_rule : Expression
applied_rule = record { name = add_zero; args = piece 26 (arg_x ∷ []) (a_sign 16 sign.Comma ∷ []) ∷ [] }

abbrev rw_step : Step
rw_step = record { at = 0; head = codes "rw"; shape = rewrite (record { back = true; expr = applied_rule } ∷ record { back = false; expr = alone rule_h } ∷ []) (Some place_h2) }

rw_rules : AreRules 26 (a_sign 4 sign.LeftArrow ∷ add_zero ∷ arg_x ∷ a_sign 16 sign.Comma ∷ rule_h ∷ a_sign 19 sign.CloseBracket ∷ []) (name 21 (codes "at") ∷ place_h2 ∷ [])
    (record { back = true; expr = applied_rule } ∷ record { back = false; expr = alone rule_h } ∷ [])
rw_rules =
    let behind : List Word = name 21 (codes "at") ∷ place_h2 ∷ [] in
    let second : List Word = rule_h ∷ a_sign 19 sign.CloseBracket ∷ [] in
    let next : List Word = a_sign 16 sign.Comma ∷ rule_h ∷ a_sign 19 sign.CloseBracket ∷ name 21 (codes "at") ∷ place_h2 ∷ [] in
    more_rules (a_sign 4 sign.LeftArrow ∷ add_zero ∷ arg_x ∷ []) second behind (a_sign 16 sign.Comma) (record { back = true; expr = applied_rule }) (record { back = false; expr = alone rule_h } ∷ [])
    (backwards (a_sign 4 sign.LeftArrow) (add_zero ∷ arg_x ∷ []) next applied_rule refl
    (applied 0 add_zero (arg_x ∷ []) next (piece 26 (arg_x ∷ []) next ∷ []) refl (argument (arg_x ∷ []) [] next [] (a_name arg_x refl) (no_argument next))))
    refl
    (last_rule (rule_h ∷ []) behind (a_sign 19 sign.CloseBracket) (record { back = false; expr = alone rule_h })
    (forwards (rule_h ∷ []) (a_sign 19 sign.CloseBracket ∷ name 21 (codes "at") ∷ place_h2 ∷ []) (alone rule_h)
    (applied 0 rule_h [] (a_sign 19 sign.CloseBracket ∷ name 21 (codes "at") ∷ place_h2 ∷ []) [] refl (no_argument (a_sign 19 sign.CloseBracket ∷ name 21 (codes "at") ∷ place_h2 ∷ []))))
    refl)

pub rw_row : IsMove 2 26 rw_word rw_tokens rw_step
rw_row = record {
  at = refl;
  word = refl;
  form =
      a_rewrite (a_sign 3 sign.OpenBracket) (a_sign 4 sign.LeftArrow ∷ add_zero ∷ arg_x ∷ a_sign 16 sign.Comma ∷ rule_h ∷ a_sign 19 sign.CloseBracket ∷ []) (name 21 (codes "at") ∷ place_h2 ∷ [])
      (record { back = true; expr = applied_rule } ∷ record { back = false; expr = alone rule_h } ∷ []) (Some place_h2) refl rw_rules (at_name (name 21 (codes "at")) place_h2 refl refl);
  steps = omega arith;
}

-- ---- `have h : a = b := e`

abbrev formula : List Word
formula = name 9 (codes "a") ∷ a_sign 11 sign.Equal ∷ name 13 (codes "b") ∷ []

abbrev have_h : Word
have_h = name 5 (codes "h")

abbrev have_e : Word
have_e = name 18 (codes "e")

abbrev have_tokens : List Word
have_tokens = have_h ∷ a_sign 7 sign.Colon ∷ name 9 (codes "a") ∷ a_sign 11 sign.Equal ∷ name 13 (codes "b") ∷ a_sign 15 sign.Assign ∷ have_e ∷ []

abbrev have_step : Step
have_step = record { at = 0; head = codes "have"; shape = have have_h (Some (record { tokens = formula; end = 15 })) (Some (alone have_e)) }

pub have_row : IsMove 1 19 (name 0 (codes "have")) have_tokens have_step
have_row = record {
  at = refl;
  word = refl;
  form =
      a_have_of have_h (a_sign 7 sign.Colon) (a_sign 15 sign.Assign) formula (have_e ∷ []) (alone have_e) refl refl (
        omega arith,
        a_token until.Assign 0 (name 9 (codes "a")) (a_sign 11 sign.Equal ∷ name 13 (codes "b") ∷ []) refl refl refl
            (a_token until.Assign 0 (a_sign 11 sign.Equal) (name 13 (codes "b") ∷ []) refl refl refl
            (a_token until.Assign 0 (name 13 (codes "b")) [] refl refl refl (no_token until.Assign 0))),
      )
      refl (applied 0 have_e [] [] [] refl (no_argument []));
  steps = omega arith;
}
