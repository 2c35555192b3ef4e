-- The one value of a field, where it is a text.
use Rattle.std.proofs.Common.{◌≡◌, ◌∙◌, sym as flip, ap, refl, ℕ, true, false, cond, List, Option, Some, None, Result, Ok, Err, MatchResult, option_map, Bor}
use Rattle.std.specs.Result.{result_ok}
use Rattle.std.specs.Str.{is_utf8, IsUtf8}
use Rattle.std.proofs.lemmas.Str.{IsUtf8-from_is_utf8, is_utf8-from_IsUtf8}

no-text : (v : List ℕ) → (IsUtf8 v → ⊥) → is_utf8 v ≡ false
no-text v none = (elim (is_utf8 v) as (λ b. is_utf8 v ≡ b → b ≡ false) [ true ↦ λ e. absurd (none (IsUtf8-from_is_utf8 v e)) | false ↦ λ e. refl ]) refl

pub text-is : {E : Type 0} (v : List ℕ) (Q : E → Type 0) (r : Result (Bor (List ℕ)) E) (o : Option (Bor (List ℕ)))
    → MatchResult r (λ s. (s.now ≡ v) × IsUtf8 v) (λ e. (IsUtf8 v → ⊥) × Q e) → o ≡ result_ok r
    → option_map (λ p. p.now) o ≡ cond (is_utf8 v) (Some v) None
text-is v Q (Ok s) o h e =
    let yes : is_utf8 v ≡ true = is_utf8-from_IsUtf8 v h.1 in
    ap (option_map (λ p. p.now)) e ∙ ap Some h.0 ∙ ap (λ b. cond b (Some v) None) (flip yes)
text-is v Q (Err x) o h e =
    ap (option_map (λ p. p.now)) e ∙ ap (λ b. cond b (Some v) None) (flip (no-text v h.0))
