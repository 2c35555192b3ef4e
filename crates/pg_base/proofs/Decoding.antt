-- One character more of a text, and the spelling of a text.
use Rattle.std.proofs.Common.{◌≡◌, ◌≢◌, ◌==◌, ◌&&◌, ℕ, Bool, true, false, List, [], ◌∷◌, ◌++◌, refl, ap, ◌∙◌, sym, append_assoc, encode_utf8, subst, arith, append-nil}
use Rattle.std.specs.Str.{encode_utf8_all}
use Rattle.std.proofs.lemmas.Str.{encodes-append}
use Rattle.std.proofs.lemmas.Bool.{ne_eqb}
use Rattle.std.proofs.lemmas.Bool.Decides.{nat_tests}
use Rattle.pg_base.specs.Characters.{character, is_blank}
use Rattle.pg_base.specs.Meaning.{escaped, decoded, spelling}

-- ---- behind a `\`

pub behind-line : (text cs rest : List ℕ) (c : ℕ) → cs ≡ c ∷ rest → c ≡ 10 → text ++ encode_utf8_all (decoded true rest) ≡ text ++ encode_utf8_all (decoded false (92 ∷ cs))
behind-line text cs rest c is line = rw (is, line) refl

pub behind-other : (old new cs rest : List ℕ) (c : ℕ) → cs ≡ c ∷ rest → c ≢ 10 → new ≡ old ++ encode_utf8_all (escaped c)
    → new ++ encode_utf8_all (decoded false rest) ≡ old ++ encode_utf8_all (decoded false (92 ∷ cs))
behind-other old new cs rest c is other grown =
    let test : (c == 10) ≡ false = ne_eqb c 10 other in
    rw (is, test, grown, encodes-append (escaped c) (decoded false rest)) (append_assoc old _ _)

-- ---- one turn

-- a blank that is passed over
blank : (passing : Bool) (c : ℕ) (cs : List ℕ) → (passing && is_blank c) ≡ true → decoded passing cs ≡ decoded passing (c ∷ cs)
blank true c [] is = rw is refl
blank true c (d ∷ cs) is = rw is refl
blank false c cs is = absurd (cc)

-- a `\`
backslash : (passing : Bool) (cs : List ℕ) → decoded false (92 ∷ cs) ≡ decoded passing (92 ∷ cs)
backslash true [] = refl
backslash true (d ∷ cs) = refl
backslash false cs = refl

-- another character
plain : (passing : Bool) (c : ℕ) (cs : List ℕ) → (passing && is_blank c) ≡ false → (c == 92) ≡ false → c ∷ decoded false cs ≡ decoded passing (c ∷ cs)
plain passing c [] stays is = rw stays refl
plain passing c (d ∷ cs) stays is = rw (stays, is) refl

-- The text so far and the meaning of the rest are the whole.
pub turn-blank : (meant whole rest after : List ℕ) (passing : Bool) (c : ℕ) → rest ≡ c ∷ after → (passing && is_blank c) ≡ true
    → meant ++ encode_utf8_all (decoded passing rest) ≡ whole → meant ++ encode_utf8_all (decoded passing after) ≡ whole
turn-blank meant whole rest after passing c is passed e =
    ap (λ cs. meant ++ encode_utf8_all cs) (blank passing c after passed) ∙ ap (λ cs. meant ++ encode_utf8_all (decoded passing cs)) (sym is) ∙ e

pub turn-backslash : (old new whole rest after left : List ℕ) (passing next : Bool) (c : ℕ) → rest ≡ c ∷ after → c ≡ 92
    → new ++ encode_utf8_all (decoded next left) ≡ old ++ encode_utf8_all (decoded false (92 ∷ after))
    → old ++ encode_utf8_all (decoded passing rest) ≡ whole → new ++ encode_utf8_all (decoded next left) ≡ whole
turn-backslash old new whole rest after left passing next c is same step e =
    step ∙ ap (λ cs. old ++ encode_utf8_all cs) (backslash passing after) ∙ ap (λ cs. old ++ encode_utf8_all (decoded passing cs)) (ap (λ d. d ∷ after) (sym same) ∙ sym is) ∙ e

pub turn-plain : (old new whole rest after : List ℕ) (passing : Bool) (c : ℕ) → rest ≡ c ∷ after → (passing && is_blank c) ≡ false → c ≢ 92
    → new ≡ old ++ encode_utf8 c → old ++ encode_utf8_all (decoded passing rest) ≡ whole → new ++ encode_utf8_all (decoded false after) ≡ whole
turn-plain old new whole rest after passing c is stays at grown e =
    ap (λ x. x ++ encode_utf8_all (decoded false after)) grown
    ∙ append_assoc old (encode_utf8 c) _
    ∙ ap (λ cs. old ++ encode_utf8_all cs) (plain passing c after stays (ne_eqb c 92 at))
    ∙ ap (λ cs. old ++ encode_utf8_all (decoded passing cs)) (sym is)
    ∙ e

pub at_end : (meant whole rest : List ℕ) (passing : Bool) → rest ≡ [] → meant ++ encode_utf8_all (decoded passing rest) ≡ whole → meant ≡ whole
at_end meant whole rest passing is e = sym (append-nil meant) ∙ ap (λ cs. meant ++ encode_utf8_all (decoded passing cs)) (sym is) ∙ e

-- ---- the spelling of a text

spelled-one : (c : ℕ) (cs : List ℕ) → decoded false (spelling cs) ≡ cs → decoded false (spelling (c ∷ cs)) ≡ c ∷ cs
spelled-one c cs same = by_backslash _ refl
  where
    by_quote : (b : Bool) → (c == 92) ≡ false → (c == 34) ≡ b → decoded false (spelling (c ∷ cs)) ≡ c ∷ cs
    by_quote true other is =
        let at : c ≡ 34 = grind (arith, nat_tests) in
        subst (λ d. decoded false (spelling (d ∷ cs)) ≡ d ∷ cs) (sym at) (ap (λ x. 34 ∷ x) same)
    by_quote false other is = rw (other, is) (sym (plain false c (spelling cs) refl other) ∙ ap (λ x. c ∷ x) same)

    by_backslash : (b : Bool) → (c == 92) ≡ b → decoded false (spelling (c ∷ cs)) ≡ c ∷ cs
    by_backslash true is =
        let at : c ≡ 92 = grind (arith, nat_tests) in
        subst (λ d. decoded false (spelling (d ∷ cs)) ≡ d ∷ cs) (sym at) (ap (λ x. 92 ∷ x) same)
    by_backslash false is = by_quote _ is refl

pub spelling-decoded : (text : List ℕ) → decoded false (spelling text) ≡ text
spelling-decoded [] = refl
spelling-decoded (c ∷ cs) = spelled-one c cs (spelling-decoded cs)
