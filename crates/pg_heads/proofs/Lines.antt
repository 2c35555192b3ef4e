-- Lines, and the empty lines at the front.
use Rattle.std.proofs.Common.{◌≡◌, ◌≤◌, ◌<◌, ℕ, zero, suc, ◌+◌, ◌-◌, nat_eq, Bool, true, false, ◌&&◌, ◌==◌, cond, List, [], ◌∷◌, ◌++◌, length, take, drop, Option, Some, None, sym as flip, ◌∙◌, ap, subst, refl, arith, get_or}
use Rattle.std.specs.Prelude.{nat_lt}
use Rattle.std.specs.List.{position_or_len}
use Rattle.std.proofs.lemmas.List.Sums.{position_or_len_is}
use Rattle.std.proofs.lemmas.Bool.Decides.{nat_tests}
use Rattle.std.proofs.lemmas.Bool.Decides.{Decides-eqb}
use Rattle.std.proofs.lemmas.List.{drop_all}
use Rattle.std.proofs.lemmas.Slice.Eq.{starts_is}
use Rattle.std.specs.List.{starts_with}
use Rattle.memchr.specs.Find.{IsFirstByte, is_byte}
use Rattle.pg_messages.specs.Head.{blank_len, line_len, is_empty_line, Scan, open_head, over_limit, ended, later, line_then, head_lines, within_limit, lines_behind, head_scan}
use Rattle.pg_heads.specs.declared.scan.Scan as Told
use Rattle.pg_heads.specs.declared.scan.Scan.TheVariants.{Open, OverLimit, Ended}
use Rattle.pg_heads.specs.View.{scan_view}

blank-shape : (s r : List ℕ) → s ≡ 10 ∷ r → blank_len s ≡ 1 + blank_len r
unfolding blank_len
blank-shape s [] e = subst (λ x. blank_len x ≡ 1 + blank_len []) (flip e) refl
blank-shape s (c ∷ w) e =
    let one : suc (blank_len (c ∷ w)) ≡ 1 + blank_len (c ∷ w) = omega arith in
    subst (λ x. blank_len x ≡ 1 + blank_len (c ∷ w)) (flip e) one

pub blank-feed : (s r : List ℕ) → s ≡ (10 ∷ []) ++ r → blank_len s ≡ 1 + blank_len r
blank-feed s r e = blank-shape s r e

pub blank-pair : (s r : List ℕ) → s ≡ (13 ∷ 10 ∷ []) ++ r → blank_len s ≡ 2 + blank_len r
unfolding blank_len
blank-pair s r e =
    let two : suc (suc (blank_len r)) ≡ 2 + blank_len r = omega arith in
    subst (λ x. blank_len x ≡ 2 + blank_len r) (flip e) two

pub blank-none : (s : List ℕ) → ((r : List ℕ) → s ≡ (10 ∷ []) ++ r → ⊥) → ((r : List ℕ) → s ≡ (13 ∷ 10 ∷ []) ++ r → ⊥) → blank_len s ≡ 0
unfolding blank_len
blank-none [] a b = refl
blank-none (x ∷ []) a b =
    (elim (x == 10) as (λ v. (x == 10) ≡ v → cond {A = ℕ} v 1 0 ≡ 0) [
      | true ↦ λ e. let is : x ≡ 10 = grind (arith, nat_tests, e) in absurd (a [] (ap (λ y. y ∷ []) is))
      | false ↦ λ e. refl
    ]) refl
blank-none (x ∷ y ∷ w) a b =
    (elim (x == 10) as (λ v. (x == 10) ≡ v → cond v (suc (blank_len (y ∷ w))) (cond ((x == 13) && (y == 10)) (suc (suc (blank_len w))) 0) ≡ 0) [
      | true ↦ λ e. let is : x ≡ 10 = grind (arith, nat_tests, e) in absurd (a (y ∷ w) (ap (λ z. z ∷ y ∷ w) is))
      | false ↦ λ e.
          (elim (x == 13) as (λ v. (x == 13) ≡ v → cond (v && (y == 10)) (suc (suc (blank_len w))) 0 ≡ 0) [
            | false ↦ λ f. refl
            | true ↦ λ f.
                (elim (y == 10) as (λ v. (y == 10) ≡ v → cond v (suc (suc (blank_len w))) 0 ≡ 0) [
                  | false ↦ λ g. refl
                  | true ↦ λ g.
                      let one : x ≡ 13 = grind (arith, nat_tests, f) in
                      let two : y ≡ 10 = grind (arith, nat_tests, g) in
                      absurd (b w (ap (λ z. z ∷ y ∷ w) one ∙ ap (λ z. 13 ∷ z ∷ w) two))
                ]) refl
          ]) refl
    ]) refl

pub blank-end : (s : List ℕ) (n : ℕ) → length s ≤ n → blank_len s ≡ n + blank_len (drop n s) → n ≡ blank_len s
unfolding blank_len
blank-end s n le e =
    let none : drop n s ≡ [] = drop_all n s le in
    let zero_ : blank_len (drop n s) ≡ 0 = ap blank_len none in
    omega (arith, e, zero_)

pub front-is : (s w : List ℕ) (r : Bool) → r ≡ starts_with nat_eq s w → (r ≡ true → s ≡ w ++ drop (length w) s) × ((rest : List ℕ) → s ≡ w ++ rest → r ≡ true)
front-is s w r e = starts_is {E = nat_eq} Decides-eqb s w r e

-- ---- the first line

fails : (v : Bool) → (v ≡ true → ⊥) → v ≡ false
fails true n = absurd (n refl)
fails false n = refl

pub line-none : (s : List ℕ) (r : Option ℕ) → IsFirstByte (is_byte 10) s r → r ≡ None → None ≡ line_len s
line-none s r h e =
    let nowhere : (k : ℕ) → 0 ≤ k → k < length s → (get_or s k 0 == 10) ≡ true → ⊥ = rw e at h in
    let at : position_or_len (λ b. b == 10) s ≡ length s =
    position_or_len_is (λ b. b == 10) s (length s) 0 (omega arith) (λ k lt. fails (get_or s k 0 == 10) (nowhere k (omega arith) lt)) (λ lt. absurd (omega (arith, lt))) in
    let open_ : nat_lt (position_or_len (λ b. b == 10) s) (length s) ≡ false = grind (arith, nat_tests, at) in
    rw open_ refl

pub line-some : (s : List ℕ) (r : Option ℕ) (k : ℕ) → IsFirstByte (is_byte 10) s r → r ≡ Some k → Some (k + 1) ≡ line_len s
line-some s r k h e =
    let first = subst (IsFirstByte (is_byte 10) s) e h in
    let at : position_or_len (λ b. b == 10) s ≡ k =
    position_or_len_is (λ b. b == 10) s k 0 (omega (arith, first.0.high)) (λ j lt. fails (get_or s j 0 == 10) (first.0.before j (omega arith) lt)) (λ lt. first.1) in
    let ends_ : nat_lt (position_or_len (λ b. b == 10) s) (length s) ≡ true = grind (arith, nat_tests, at, first.0.high) in
    let next : k + 1 ≡ suc k = omega arith in
    rw (ends_, at, next) refl

-- ---- the lines of a head

pub lines-zero : (blank passed most : ℕ) (s : List ℕ) → most ≡ 0 → over_limit ≡ later passed (head_lines blank most s)
unfolding head_lines
lines-zero blank passed most s e = subst (λ n. over_limit ≡ later passed (head_lines blank n s)) (flip e) refl

pub lines-open : (blank passed most : ℕ) (s : List ℕ) → (most ≡ 0 → ⊥) → None ≡ line_len s → open_head ≡ later passed (head_lines blank most s)
unfolding head_lines
lines-open blank passed zero s some e = absurd (some refl)
lines-open blank passed (suc most) s some e = subst (λ o. open_head ≡ later passed (line_then blank o s (head_lines blank most))) e refl

pub lines-ended : (blank passed most : ℕ) (s : List ℕ) (n : ℕ) → (most ≡ 0 → ⊥) → Some n ≡ line_len s → is_empty_line (take n s) ≡ true → ended blank (passed + n) ≡ later passed (head_lines blank most s)
unfolding head_lines
lines-ended blank passed zero s n some e empty = absurd (some refl)
lines-ended blank passed (suc most) s n some e empty =
    subst (λ o. ended blank (passed + n) ≡ later passed (line_then blank o s (head_lines blank most))) e (rw empty refl)

later-later : (p n : ℕ) (s : Scan) → later p (later n s) ≡ later (p + n) s
later-later p n open_head = refl
later-later p n over_limit = refl
later-later p n (ended b m) = let e : p + (n + m) ≡ p + n + m = omega arith in ap (ended b) e

pub lines-next : (blank passed most : ℕ) (s : List ℕ) (n : ℕ) → (most ≡ 0 → ⊥) → Some n ≡ line_len s → is_empty_line (take n s) ≡ false
    → later (passed + n) (head_lines blank (most - 1) (drop n s)) ≡ later passed (head_lines blank most s)
unfolding head_lines
lines-next blank passed zero s n some e full = absurd (some refl)
lines-next blank passed (suc most) s n some e full =
    let less : suc most - 1 ≡ most = omega arith in
    subst (λ o. later (passed + n) (head_lines blank (suc most - 1) (drop n s)) ≡ later passed (line_then blank o s (head_lines blank most))) e
    (rw (full, less) (flip (later-later passed n (head_lines blank most (drop n s)))))

-- ---- the scan

later-zero : (s : Scan) → later 0 s ≡ s
later-zero open_head = refl
later-zero over_limit = refl
later-zero (ended b m) = let e : 0 + m ≡ m = omega arith in ap (ended b) e

pub scan-told : (bytes w : List ℕ) (blank : ℕ) (lines : List ℕ) (s : Scan) → w ≡ take 16384 bytes → blank ≡ blank_len w → lines ≡ drop blank w
    → s ≡ later 0 (head_lines blank 66 lines) → within_limit (length w) s ≡ head_scan bytes
unfolding head_scan
scan-told bytes w blank lines s window front rest told =
    let is : s ≡ head_lines blank 66 (drop blank w) = told ∙ later-zero (head_lines blank 66 lines) ∙ ap (head_lines blank 66) rest in
    ap (within_limit (length w)) is ∙ ap (λ b. lines_behind b w) front ∙ ap (λ x. lines_behind (blank_len x) x) window

pub open-over : (n : ℕ) → n ≡ 16384 → within_limit n open_head ≡ over_limit
open-over n e = let is : (n == 16384) ≡ true = grind (arith, nat_tests, e) in rw is refl

pub open-open : (n : ℕ) → (n ≡ 16384 → ⊥) → within_limit n open_head ≡ open_head
open-open n e = let is : (n == 16384) ≡ false = grind (arith, nat_tests, e) in rw is refl

pub other-scan : (n : ℕ) (r : Told.Scan) → (r ≡ Open → ⊥) → within_limit n (scan_view r) ≡ scan_view r
other-scan n Open other = absurd (other refl)
other-scan n OverLimit other = refl
other-scan n (Ended b m) other = refl
