-- More bytes leave a head where it ended.
use Rattle.std.proofs.Common.{◌≡◌, ◌≤◌, ◌<◌, ℕ, zero, suc, ◌+◌, ◌-◌, min, Bool, true, false, ◌&&◌, ◌==◌, not, cond, ltb, List, [], ◌∷◌, ◌++◌, length, take, drop, Some, None, sym as flip, ◌∙◌, ap, subst, refl, arith}
use Rattle.std.specs.List.{prefix_len}
use Rattle.std.proofs.lemmas.List.{take-append-le, drop-append-le, length-take, length-append, take_all, length-drop}
use Rattle.std.proofs.lemmas.Bool.Decides.{nat_tests}
use Rattle.pg_messages.specs.Head.{blank_len, line_len, is_empty_line, Scan, open_head, over_limit, ended, later, line_then, head_lines, within_limit, lines_behind, head_scan}

-- a head that has ended, or is over the limits
abbrev pub IsDecided : Scan → Type 0
IsDecided open_head = ⊥
IsDecided over_limit = Unit {0}
IsDecided (ended blank n) = Unit {0}

first-stays : (p : ℕ → Bool) (a b : List ℕ) → prefix_len p a < length a → prefix_len p (a ++ b) ≡ prefix_len p a
first-stays p [] b lt = absurd (omega (arith, lt))
first-stays p (x ∷ a) b lt =
    (elim (p x) as (λ v. cond v (1 + prefix_len p a) 0 < suc (length a) → cond v (1 + prefix_len p (a ++ b)) 0 ≡ cond v (1 + prefix_len p a) 0) [
      | true ↦ λ l. ap (λ n. 1 + n) (first-stays p a b (omega (arith, l)))
      | false ↦ λ l. refl
    ]) lt

-- where the first line has ended, it is known how long it is, and stays so
record LineIs (a : List ℕ) (n : ℕ) : Type 0 where
  within : n ≤ length a
  some : 0 < n
  stays : (b : List ℕ) → line_len (a ++ b) ≡ Some n

line-is : (a : List ℕ) (n : ℕ) → line_len a ≡ Some n → LineIs a n
line-is a n =
    let p : ℕ → Bool = λ x. not (x == 10) in
    (elim (ltb (prefix_len p a) (length a)) as (λ v. ltb (prefix_len p a) (length a) ≡ v → cond v (Some (suc (prefix_len p a))) None ≡ Some n → LineIs a n) [
      | true ↦ λ t e.
          let lt : prefix_len p a < length a = grind (arith, nat_tests, t) in
          let is : suc (prefix_len p a) ≡ n = cc in
          record {
            within = omega (arith, lt, is);
            some = omega (arith, is);
            stays = λ b.
                let same = first-stays p a b lt in
                let long : ltb (prefix_len p a) (length (a ++ b)) ≡ true = grind (arith, nat_tests, lt, length-append a b) in
                rw (same, long) e;
          }
      | false ↦ λ t e. let bad : ⊥ = cc in absurd bad
    ]) refl

-- ---- the lines of a head

pub lines-stay : (blank most : ℕ) (a b : List ℕ) → IsDecided (head_lines blank most a) → head_lines blank most (a ++ b) ≡ head_lines blank most a
unfolding head_lines
lines-stay blank zero a b d = refl
lines-stay blank (suc most) a b d =
    (elim (line_len a) as (λ o. line_len a ≡ o → IsDecided (line_then blank o a (head_lines blank most)) → line_then blank (line_len (a ++ b)) (a ++ b) (head_lines blank most) ≡ line_then blank o a (head_lines blank most)) [
      | None ↦ λ e d. absurd d
      | Some n ↦ λ e d.
          let line = line-is a n e in
          let front : take n (a ++ b) ≡ take n a = take-append-le n a b line.within in
          let back : drop n (a ++ b) ≡ drop n a ++ b = drop-append-le n a b line.within in
          rw (line.stays b, front, back)
          ((elim (is_empty_line (take n a)) as (λ v. IsDecided (cond v (ended blank n) (later n (head_lines blank most (drop n a))))
          → cond v (ended blank n) (later n (head_lines blank most (drop n a ++ b))) ≡ cond v (ended blank n) (later n (head_lines blank most (drop n a)))) [
            | true ↦ λ d. refl
            | false ↦ λ d. ap (later n) (lines-stay blank most (drop n a) b (decided-before n (head_lines blank most (drop n a)) d))
          ]) d)
    ]) refl d
  where
    decided-before : (n : ℕ) (s : Scan) → IsDecided (later n s) → IsDecided s
    decided-before n open_head d = d
    decided-before n over_limit d = d
    decided-before n (ended blank m) d = d

-- a head that has ended lies in the bytes, behind what was passed over
abbrev pub LiesIn : ℕ → ℕ → Scan → Type 0
LiesIn blank size open_head = Unit {0}
LiesIn blank size over_limit = Unit {0}
LiesIn blank size (ended b n) = (b ≡ blank) × (n ≤ size)

pub lines-lie : (blank most : ℕ) (a : List ℕ) → LiesIn blank (length a) (head_lines blank most a)
unfolding head_lines
lines-lie blank zero a = tt
lines-lie blank (suc most) a =
    (elim (line_len a) as (λ o. line_len a ≡ o → LiesIn blank (length a) (line_then blank o a (head_lines blank most))) [
      | None ↦ λ e. tt
      | Some n ↦ λ e.
          let line = line-is a n e in
          let within : n ≤ length a = line.within in
          (elim (is_empty_line (take n a)) as (λ v. LiesIn blank (length a) (cond v (ended blank n) (later n (head_lines blank most (drop n a))))) [
            | true ↦ (refl, within)
            | false ↦ behind n (head_lines blank most (drop n a)) within (lines-lie blank most (drop n a))
          ])
    ]) refl
  where
    behind : (n : ℕ) (s : Scan) → n ≤ length a → LiesIn blank (length (drop n a)) s → LiesIn blank (length a) (later n s)
    behind n open_head le h = tt
    behind n over_limit le h = tt
    behind n (ended b m) le h = (h.0, omega (arith, le, h.1, length-drop n a))

-- a head goes on where its first line has not ended
open-line : (blank most : ℕ) (a : List ℕ) → line_len a ≡ None → IsDecided (head_lines blank (suc most) a) → ⊥
unfolding head_lines
open-line blank most a e d = let bad = rw e at d in bad

-- ---- the empty lines at the front

line-one : (b : ℕ) → (b == 10) ≡ false → line_len (b ∷ []) ≡ None
line-one b e = rw e refl

pub blank-stays : (w more : List ℕ) (n : ℕ) → line_len (drop (blank_len w) w) ≡ Some n → blank_len (w ++ more) ≡ blank_len w
unfolding blank_len
blank-stays [] more n e = let bad : ⊥ = cc in absurd bad
blank-stays (b ∷ []) more n e =
    (elim (b == 10) as (λ v. (b == 10) ≡ v → line_len (drop (cond v 1 0) (b ∷ [])) ≡ Some n → blank_len (b ∷ more) ≡ cond v 1 0) [
      | true ↦ λ t h. let bad : ⊥ = cc in absurd bad
      | false ↦ λ t h. let none = line-one b t in let bad : ⊥ = cc in absurd bad
    ]) refl e
blank-stays (b ∷ c ∷ w) more n e =
    (elim (b == 10) as (λ v. line_len (drop (cond v (suc (blank_len (c ∷ w))) (cond ((b == 13) && (c == 10)) (suc (suc (blank_len w))) 0)) (b ∷ c ∷ w)) ≡ Some n
    → cond v (suc (blank_len (c ∷ (w ++ more)))) (cond ((b == 13) && (c == 10)) (suc (suc (blank_len (w ++ more)))) 0)
    ≡ cond v (suc (blank_len (c ∷ w))) (cond ((b == 13) && (c == 10)) (suc (suc (blank_len w))) 0)) [
      | true ↦ λ h. ap suc (blank-stays (c ∷ w) more n h)
      | false ↦ λ h.
          (elim ((b == 13) && (c == 10)) as (λ v. line_len (drop (cond v (suc (suc (blank_len w))) 0) (b ∷ c ∷ w)) ≡ Some n
          → cond v (suc (suc (blank_len (w ++ more)))) 0 ≡ cond v (suc (suc (blank_len w))) 0) [
            | true ↦ λ k. ap (λ x. suc (suc x)) (blank-stays w more n k)
            | false ↦ λ k. refl
          ]) h
    ]) e

pub blank-within : (w : List ℕ) → blank_len w ≤ length w
unfolding blank_len
blank-within [] = omega arith
blank-within (b ∷ []) = (elim (b == 10) as (λ v. cond v 1 0 ≤ 1) [ true ↦ omega arith | false ↦ omega arith ])
blank-within (b ∷ c ∷ w) =
    let here : blank_len (c ∷ w) ≤ suc (length w) = blank-within (c ∷ w) in
    let there : blank_len w ≤ length w = blank-within w in
    (elim (b == 10) as (λ v. cond v (suc (blank_len (c ∷ w))) (cond ((b == 13) && (c == 10)) (suc (suc (blank_len w))) 0) ≤ suc (suc (length w))) [
      | true ↦ omega (arith, here)
      | false ↦ (elim ((b == 13) && (c == 10)) as (λ v. cond v (suc (suc (blank_len w))) 0 ≤ suc (suc (length w))) [ true ↦ omega (arith, there) | false ↦ omega arith ])
    ])

-- ---- the scan

-- decided lines behind the empty lines stay so
window-stays : (w more : List ℕ) → IsDecided (head_lines (blank_len w) 66 (drop (blank_len w) w))
    → head_lines (blank_len (w ++ more)) 66 (drop (blank_len (w ++ more)) (w ++ more)) ≡ head_lines (blank_len w) 66 (drop (blank_len w) w)
window-stays w more d =
    let rest = drop (blank_len w) w in
    (elim (line_len rest) as (λ o. line_len rest ≡ o → head_lines (blank_len (w ++ more)) 66 (drop (blank_len (w ++ more)) (w ++ more)) ≡ head_lines (blank_len w) 66 rest) [
      | None ↦ λ e. absurd (open-line (blank_len w) 65 rest e d)
      | Some n ↦ λ e.
          let same = blank-stays w more n e in
          let back : drop (blank_len w) (w ++ more) ≡ rest ++ more = drop-append-le (blank_len w) w more (blank-within w) in
          rw (same, back) (lines-stay (blank_len w) 66 rest more d)
    ]) refl

-- a scan within the limit, of fewer bytes than the limit
within-decided : (n : ℕ) (s : Scan) → n < 16384 → IsDecided (within_limit n s) → IsDecided s × (within_limit n s ≡ s)
within-decided n open_head lt d =
    let other : (n == 16384) ≡ false = grind (arith, nat_tests, lt) in
    let bad = rw other at d in absurd bad
within-decided n over_limit lt d = (tt, refl)
within-decided n (ended b m) lt d = (tt, refl)

within-kept : (n : ℕ) (s : Scan) → IsDecided s → within_limit n s ≡ s
within-kept n open_head d = absurd d
within-kept n over_limit d = refl
within-kept n (ended b m) d = refl

-- the window on the bytes and more
window-more : (a more : List ℕ) → length a ≤ 16384 → take 16384 (a ++ more) ≡ a ++ take (16384 - length a) more
window-more a more le = at a 16384 le
  where
    at : (a : List ℕ) (n : ℕ) → length a ≤ n → take n (a ++ more) ≡ a ++ take (n - length a) more
    at [] n le = let e : n - 0 ≡ n = omega arith in rw e refl
    at (x ∷ a) zero le = absurd (omega (arith, le))
    at (x ∷ a) (suc n) le =
        let e : suc n - suc (length a) ≡ n - length a = omega arith in
        rw e (ap (λ r. x ∷ r) (at a n (omega (arith, le))))

short-stays : (a more : List ℕ) → length a < 16384 → IsDecided (head_scan a) → head_scan (a ++ more) ≡ head_scan a
unfolding head_scan
short-stays a more lt d =
    let whole : take 16384 a ≡ a = take_all 16384 a (omega (arith, lt)) in
    let longer : take 16384 (a ++ more) ≡ a ++ take (16384 - length a) more = window-more a more (omega (arith, lt)) in
    let decided : IsDecided (within_limit (length a) (head_lines (blank_len a) 66 (drop (blank_len a) a))) = subst (λ w. IsDecided (lines_behind (blank_len w) w)) whole d in
    let lines = within-decided (length a) (head_lines (blank_len a) 66 (drop (blank_len a) a)) lt decided in
    let stay = window-stays a (take (16384 - length a) more) lines.0 in
    rw (longer, whole)
    (ap (within_limit (length (a ++ take (16384 - length a) more))) stay
    ∙ within-kept (length (a ++ take (16384 - length a) more)) (head_lines (blank_len a) 66 (drop (blank_len a) a)) lines.0
    ∙ flip lines.1)

-- a head that has ended, or is over the limits, stays so under more bytes
pub scan-stays : (a more : List ℕ) → IsDecided (head_scan a) → head_scan (a ++ more) ≡ head_scan a
unfolding head_scan
scan-stays a more d =
    (elim (ltb (length a) 16384) as (λ v. ltb (length a) 16384 ≡ v → head_scan (a ++ more) ≡ head_scan a) [
      | true ↦ λ e. short-stays a more (grind (arith, nat_tests, e)) d
      | false ↦ λ e.
          let le : 16384 ≤ length a = grind (arith, nat_tests, e) in
          let same : take 16384 (a ++ more) ≡ take 16384 a = take-append-le 16384 a more le in
          rw same (refl {a = lines_behind (blank_len (take 16384 a)) (take 16384 a)})
    ]) refl

-- how long the bytes are by what the scan says
abbrev pub ScanIs : ℕ → Scan → Type 0
ScanIs size open_head = size < 16384
ScanIs size over_limit = Unit {0}
ScanIs size (ended b n) = (b + n ≤ size) × (b + n ≤ 16384)

window-is : (w : List ℕ) (blank size : ℕ) (s : Scan) → length w ≡ min 16384 size → blank ≤ length w → LiesIn blank (length (drop blank w)) s → ScanIs size (within_limit (length w) s)
window-is w blank size open_head e b h =
    (elim (length w == 16384) as (λ v. (length w == 16384) ≡ v → ScanIs size (cond v over_limit open_head)) [
      | true ↦ λ t. tt
      | false ↦ λ t. grind (arith, nat_tests, t, e)
    ]) refl
window-is w blank size over_limit e b h = tt
window-is w blank size (ended c n) e b h = (omega (arith, e, h.0, h.1, b, length-drop blank w), omega (arith, e, h.0, h.1, b, length-drop blank w))

pub scan-is : (a : List ℕ) → ScanIs (length a) (head_scan a)
unfolding head_scan
scan-is a = at (take 16384 a) (length-take 16384 a)
  where
    at : (w : List ℕ) → length w ≡ min 16384 (length a) → ScanIs (length a) (lines_behind (blank_len w) w)
    at w e = window-is w (blank_len w) (length a) (head_lines (blank_len w) 66 (drop (blank_len w) w)) e (blank-within w) (lines-lie (blank_len w) 66 (drop (blank_len w) w))
