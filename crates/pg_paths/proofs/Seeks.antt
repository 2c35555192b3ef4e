-- The walk of matchit over rows whose texts are known.
use Rattle.std.proofs.Common.{◌≡◌, ◌≢◌, ℕ, suc, ◌+◌, ◌-◌, ◌<◌, List, [], ◌∷◌, ◌++◌, length, drop, Some, None, Bool, true, false, cond, refl, sym, ap, ◌∙◌, arith, nat_eq, ◌==◌, ltb, append-nil, not, ◌&&◌, length-append, append_assoc, subst}
use Rattle.std.proofs.Math.Seq.{drop-length, drop-append_seam}
use Rattle.std.proofs.lemmas.Bool.Decides.{nat_tests}
use Rattle.std.specs.List.{ends_with}
use Rattle.matchit.specs.Rows.{Rows, prepend, param_token, catch_all_token}
use Rattle.matchit.specs.Seek.{own, step, or_else, seek, first, param_step, has_slash, segment, cuts}
use Rattle.matchit.specs.Level.{IsText}
use Rattle.matchit.proofs.SeekLemmas.{first-prefix, own-append, step-append, own-prepend, step-miss, seek-lit, seek-empty, seek-drop, or_else-none, param_step-empty}
use Rattle.pg_paths.specs.Plain.{one_part, two_parts, ends}

-- rows that begin with bytes, as the walk sees them
pub record IsLiteral (r : Rows) : Type 0 where
  pub own : own r ≡ None
  pub params : step param_token r ≡ []
  pub catches : step catch_all_token r ≡ []

pub seek-literal : (r : Rows) (y : ℕ) (p : List ℕ) → IsLiteral r → seek 0 r (y ∷ p) ≡ seek 0 (step y r) p
unfolding seek
seek-literal r y p h = simp (h.params, h.catches, param_step-empty (y ∷ p), seek-empty ((param_step {K = ℕ} [] (y ∷ p)).0 - 1) p, or_else-none)

literal-both : (x : ℕ) (w : List ℕ) (t r : Rows) → x < 256 → IsLiteral r → IsLiteral (prepend (x ∷ w) t ++ r)
literal-both x w t r l h =
    let n1 : x ≢ param_token = λ e. omega arith in
    let n2 : x ≢ catch_all_token = λ e. omega arith in
    record {
      own = simp (own-append, own-prepend x w t, h.own);
      params = simp (step-append, step-miss param_token x w t n1, h.params);
      catches = simp (step-append, step-miss catch_all_token x w t n2, h.catches);
    }

-- two lists of rows that begin with other bytes
pub first-union : (x : ℕ) (w : List ℕ) (t r : Rows) (path : List ℕ) → x < 256 → IsLiteral r → step x r ≡ []
    → first (prepend (x ∷ w) t ++ r) path ≡ or_else (first (prepend (x ∷ w) t) path) (first r path)
unfolding seek
first-union x w t r [] l h none = own-append (prepend (x ∷ w) t) r
first-union x w t r (y ∷ p) l h none =
    seek-literal (prepend (x ∷ w) t ++ r) y p (literal-both x w t r l h) ∙ by (x == y) refl
  where
    by : (v : Bool) → (x == y) ≡ v → seek 0 (step y (prepend (x ∷ w) t ++ r)) p ≡ or_else (first (prepend (x ∷ w) t) (y ∷ p)) (first r (y ∷ p))
    by true e =
        let xy : x ≡ y = grind (arith, nat_tests) in
        let gone : step y r ≡ [] = rw (← xy) none in
        rw (seek-lit x w t y p l, seek-literal r y p h, step-append y (prepend (x ∷ w) t) r, gone, append-nil (step y (prepend (x ∷ w) t)), seek-empty 0 p)
        (sym (or_else-none (seek 0 (step y (prepend (x ∷ w) t)) p)))
    by false e =
        let n : x ≢ y = λ q. grind (arith, nat_tests) in
        rw (seek-lit x w t y p l, seek-literal r y p h, step-append y (prepend (x ∷ w) t) r, step-miss y x w t n, seek-empty 0 p) refl

-- a parameter over no rows
empty-cond : (v : Bool) (n : ℕ) (p : List ℕ) → seek {K = ℕ} ((cond {A = ℕ × Rows} v (0, []) (n, [])).0 - 1) (cond {A = ℕ × Rows} v (0, []) (n, [])).1 p ≡ None
empty-cond true n p = seek-empty 0 p
empty-cond false n p = seek-empty (n - 1) p

-- a parameter that takes all that is left
part-cond : (v : Bool) (k : ℕ) (p : List ℕ)
    → seek {K = ℕ} ((cond {A = ℕ × Rows} v (0, []) (suc (length p), ([], k) ∷ [])).0 - 1) (cond {A = ℕ × Rows} v (0, []) (suc (length p), ([], k) ∷ [])).1 p ≡ cond v None (Some k)
unfolding seek
part-cond true k p = seek-empty 0 p
part-cond false k p =
    let less : suc (length p) - 1 ≡ length p = omega arith in
    rw (less, seek-drop (length p) (([], k) ∷ []) p, drop-length p) refl

not-cond : (v : Bool) (k : ℕ) (n : ℕ) → 0 < n → cond v None (Some k) ≡ cond (ltb 0 n && not v) (Some k) None
not-cond v k n h = let e : ltb 0 n ≡ true = grind (arith, nat_tests) in rw e (elim v as (λ w. cond w None (Some k) ≡ cond (not w) (Some k) None) [ true ↦ refl | false ↦ refl ])

no-byte : (b : ℕ) → b < 256 → (param_token == b) ≡ false
no-byte b h = grind (arith, nat_tests)

pub first-end : (k : ℕ) (path : List ℕ) → first (([], k) ∷ []) path ≡ ends k path
unfolding seek param_step
first-end k [] = refl
first-end k (b ∷ p) = rw (seek-empty 0 p, empty-cond (cond (b == 47) true (has_slash p)) (suc (length p)) p) refl

pub first-part : (k : ℕ) (path : List ℕ) → IsText path → first ((param_token ∷ [], k) ∷ []) path ≡ one_part k path
unfolding seek param_step
first-part k [] h = refl
first-part k (b ∷ p) h =
    rw (no-byte b h.0, seek-empty 0 p, part-cond (cond (b == 47) true (has_slash p)) k p)
    (or_else-none (cond (cond (b == 47) true (has_slash p)) None (Some k)) ∙ not-cond (cond (b == 47) true (has_slash p)) k (suc (length p)) (omega arith))

-- ---- a part before a slash

abbrev tail_rows : ℕ → Rows
tail_rows k = (47 ∷ param_token ∷ [], k) ∷ []

step-cut : (k : ℕ) (path seg : List ℕ) → segment path ≡ seg → cuts seg (47 ∷ []) ≡ true → param_step (tail_rows k) path ≡ (length seg - 1, tail_rows k)
unfolding param_step
step-cut k path seg e c = rw (e, c) refl

step-none : (k : ℕ) (path seg : List ℕ) (v : Bool) → segment path ≡ seg → cuts seg (47 ∷ []) ≡ false → has_slash path ≡ v
    → param_step (tail_rows k) path ≡ cond {A = ℕ × Rows} v (0, []) (length path, tail_rows k)
unfolding param_step
step-none k path seg v e c h = rw (e, c, h) refl

slash-split : (p : List ℕ) → has_slash p ≡ true → (front : List ℕ) × (rest : List ℕ) × (p ≡ front ++ 47 ∷ rest) × (segment p ≡ front ++ 47 ∷ [])
slash-split [] h = cc
slash-split (b ∷ p) h =
    (elim (b == 47) as (λ v. (b == 47) ≡ v → (front : List ℕ) × (rest : List ℕ) × (b ∷ p ≡ front ++ 47 ∷ rest) × (segment (b ∷ p) ≡ front ++ 47 ∷ [])) [
      | true ↦ λ e. let is : b ≡ 47 = grind (arith, nat_tests) in ([], p, ap (λ x. x ∷ p) is, rw e (ap (λ x. x ∷ []) is))
      | false ↦ λ e. let (front, rest, whole, seg) = slash-split p (rw e at h) in (b ∷ front, rest, ap (λ x. b ∷ x) whole, rw e (ap (λ x. b ∷ x) seg))
    ]) refl

last-no : (b : ℕ) (q : List ℕ) → ends_with nat_eq q (47 ∷ []) ≡ false → nat_eq 47 b ≡ false → ends_with nat_eq (b ∷ q) (47 ∷ []) ≡ false
last-no b [] t o = rw o refl
last-no b (c ∷ q) t o = let less : suc (suc (length q)) - 1 ≡ suc (suc (length q) - 1) = omega arith in rw less t

no-slash : (p : List ℕ) → has_slash p ≡ false → (segment p ≡ p) × (ends_with nat_eq p (47 ∷ []) ≡ false)
no-slash [] h = (refl, refl)
no-slash (b ∷ p) h =
    (elim (b == 47) as (λ v. (b == 47) ≡ v → (segment (b ∷ p) ≡ b ∷ p) × (ends_with nat_eq (b ∷ p) (47 ∷ []) ≡ false)) [
      | true ↦ λ e. let other : true ≡ false = rw e at h in cc
      | false ↦ λ e.
          let on = no-slash p (rw e at h) in
          let other : nat_eq 47 b ≡ false = grind (arith, nat_tests) in
          (rw e (ap (λ x. b ∷ x) on.0), last-no b p on.1 other)
    ]) refl

ending : (front : List ℕ) → ends_with nat_eq (front ++ 47 ∷ []) (47 ∷ []) ≡ true
ending front =
    let size : length (front ++ 47 ∷ []) - 1 ≡ length front = rw (length-append front (47 ∷ [])) (omega arith) in
    rw (size, drop-append_seam front (47 ∷ [])) refl

IsText-behind : (front rest : List ℕ) → IsText (front ++ rest) → IsText rest
IsText-behind [] rest h = h
IsText-behind (b ∷ front) rest h = IsText-behind front rest h.1

-- a walk over the rows of a part and a slash
walk-parts : (k b : ℕ) (p : List ℕ) → b < 256 → first ((param_token ∷ 47 ∷ param_token ∷ [], k) ∷ []) (b ∷ p)
    ≡ or_else (seek ((param_step (tail_rows k) (b ∷ p)).0 - 1) (param_step (tail_rows k) (b ∷ p)).1 p) None
unfolding seek
walk-parts k b p h = rw (no-byte b h, seek-empty 0 p) refl

-- the slash, and then the last part
slash-part : (k : ℕ) (rest : List ℕ) → IsText rest → first (tail_rows k) (47 ∷ rest) ≡ one_part k rest
slash-part k rest h = first-prefix (47 ∷ []) ((param_token ∷ [], k) ∷ []) (47 ∷ rest) (omega arith, tt) ∙ first-part k rest h

two_parts-at : (k : ℕ) (path seg rest : List ℕ) → has_slash path ≡ true → segment path ≡ seg → ltb 1 (length seg) ≡ true → drop (length seg) path ≡ rest → two_parts k path ≡ one_part k rest
two_parts-at k path seg rest h e l d = rw (h, e, l, d) refl

two_parts-short : (k : ℕ) (path seg : List ℕ) → segment path ≡ seg → ltb 1 (length seg) ≡ false → two_parts k path ≡ None
two_parts-short k path seg e l = rw (e, l) (elim (has_slash path) as (λ v. cond (v && false) (one_part k (drop (length seg) path)) None ≡ None) [ true ↦ refl | false ↦ refl ])

with-front : (k b : ℕ) (fs rest : List ℕ) → IsText (b ∷ (fs ++ 47 ∷ rest)) → segment (b ∷ (fs ++ 47 ∷ rest)) ≡ b ∷ (fs ++ 47 ∷ [])
    → has_slash (b ∷ (fs ++ 47 ∷ rest)) ≡ true
    → first ((param_token ∷ 47 ∷ param_token ∷ [], k) ∷ []) (b ∷ (fs ++ 47 ∷ rest)) ≡ two_parts k (b ∷ (fs ++ 47 ∷ rest))
with-front k b fs rest h seg slash =
    let size : length (b ∷ (fs ++ 47 ∷ [])) ≡ length fs + 2 = rw (length-append fs (47 ∷ [])) (omega arith) in
    let long : ltb 1 (length (b ∷ (fs ++ 47 ∷ []))) ≡ true = grind (arith, nat_tests, size) in
    let cut : cuts (b ∷ (fs ++ 47 ∷ [])) (47 ∷ []) ≡ true = rw (long, ending (b ∷ fs)) refl in
    let went = step-cut k (b ∷ (fs ++ 47 ∷ rest)) (b ∷ (fs ++ 47 ∷ [])) seg cut in
    let skip : length (b ∷ (fs ++ 47 ∷ [])) - 1 - 1 ≡ length fs = omega (arith, size) in
    let behind : drop (length (b ∷ (fs ++ 47 ∷ []))) (b ∷ (fs ++ 47 ∷ rest)) ≡ rest =
    ap (λ q. drop (length (b ∷ (fs ++ 47 ∷ []))) q) (sym (append_assoc (b ∷ fs) (47 ∷ []) rest)) ∙ drop-append_seam (b ∷ (fs ++ 47 ∷ [])) rest in
    walk-parts k b (fs ++ 47 ∷ rest) h.0
    ∙ or_else-none (seek ((param_step (tail_rows k) (b ∷ (fs ++ 47 ∷ rest))).0 - 1) (param_step (tail_rows k) (b ∷ (fs ++ 47 ∷ rest))).1 (fs ++ 47 ∷ rest))
    ∙ ap (λ (x : ℕ × Rows). seek (x.0 - 1) x.1 (fs ++ 47 ∷ rest)) went
    ∙ ap (λ n. seek n (tail_rows k) (fs ++ 47 ∷ rest)) skip
    ∙ seek-drop (length fs) (tail_rows k) (fs ++ 47 ∷ rest)
    ∙ ap (λ q. first (tail_rows k) q) (drop-append_seam fs (47 ∷ rest))
    ∙ slash-part k rest (IsText-behind (b ∷ fs) (47 ∷ rest) h).1
    ∙ sym (two_parts-at k (b ∷ (fs ++ 47 ∷ rest)) (b ∷ (fs ++ 47 ∷ [])) rest slash seg long behind)

abbrev Goes : ℕ → List ℕ → Type 0
Goes k path = first ((param_token ∷ 47 ∷ param_token ∷ [], k) ∷ []) path ≡ two_parts k path

-- a slash at once
no-front : (k b : ℕ) (p : List ℕ) → b < 256 → has_slash (b ∷ p) ≡ true → segment (b ∷ p) ≡ 47 ∷ [] → Goes k (b ∷ p)
no-front k b p h slash seg =
    walk-parts k b p h
    ∙ or_else-none (seek ((param_step (tail_rows k) (b ∷ p)).0 - 1) (param_step (tail_rows k) (b ∷ p)).1 p)
    ∙ ap (λ (x : ℕ × Rows). seek (x.0 - 1) x.1 p) (step-none k (b ∷ p) (47 ∷ []) true seg refl slash)
    ∙ seek-empty 0 p
    ∙ sym (two_parts-short k (b ∷ p) (47 ∷ []) seg refl)

with-slash : (k : ℕ) (b : ℕ) (p front rest : List ℕ) → IsText (b ∷ p) → has_slash (b ∷ p) ≡ true → b ∷ p ≡ front ++ 47 ∷ rest → segment (b ∷ p) ≡ front ++ 47 ∷ [] → Goes k (b ∷ p)
with-slash k b p [] rest h slash whole seg = no-front k b p h.0 slash seg
with-slash k b p (f ∷ fs) rest h slash whole seg =
    let at : (q : List ℕ) → q ≡ f ∷ (fs ++ 47 ∷ rest) → IsText q → has_slash q ≡ true → segment q ≡ f ∷ (fs ++ 47 ∷ []) → Goes k q =
    λ q e t s g. subst (Goes k) (sym e) (with-front k f fs rest (subst IsText e t) (ap segment (sym e) ∙ g) (ap has_slash (sym e) ∙ s)) in
    at (b ∷ p) whole h slash seg

nothing : (k : ℕ) → first (tail_rows k) [] ≡ None
unfolding seek
nothing k = refl

closed : (k : ℕ) (path : List ℕ) → has_slash path ≡ false → two_parts k path ≡ None
closed k path e = rw e refl

without-slash : (k b : ℕ) (p : List ℕ) → b < 256 → has_slash (b ∷ p) ≡ false → Goes k (b ∷ p)
without-slash k b p h none =
    let (seg, open_end) = no-slash (b ∷ p) none in
    let cut : cuts (b ∷ p) (47 ∷ []) ≡ false = rw open_end (elim (ltb 1 (length (b ∷ p))) as (λ v. (v && false) ≡ false) [ true ↦ refl | false ↦ refl ]) in
    let skip : length (b ∷ p) - 1 ≡ length p = omega arith in
    walk-parts k b p h
    ∙ or_else-none (seek ((param_step (tail_rows k) (b ∷ p)).0 - 1) (param_step (tail_rows k) (b ∷ p)).1 p)
    ∙ ap (λ (x : ℕ × Rows). seek (x.0 - 1) x.1 p) (step-none k (b ∷ p) (b ∷ p) false seg cut none)
    ∙ ap (λ n. seek n (tail_rows k) p) skip
    ∙ seek-drop (length p) (tail_rows k) p
    ∙ ap (λ q. first (tail_rows k) q) (drop-length p)
    ∙ nothing k
    ∙ sym (closed k (b ∷ p) none)

pub first-parts : (k : ℕ) (path : List ℕ) → IsText path → Goes k path
unfolding seek
first-parts k [] h = refl
first-parts k (b ∷ p) h =
    (elim (has_slash (b ∷ p)) as (λ v. has_slash (b ∷ p) ≡ v → Goes k (b ∷ p)) [
      | true ↦ λ e. let (front, rest, whole, seg) = slash-split (b ∷ p) e in with-slash k b p front rest h e whole seg
      | false ↦ λ e. without-slash k b p h.0 e
    ]) refl
