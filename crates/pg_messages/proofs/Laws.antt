-- Laws of a connection's messages.
use Rattle.std.proofs.Common.{◌≡◌, ◌≤◌, ◌<◌, ◌⊎◌, inl, inr, ℕ, ◌+◌, Bool, true, false, ◌||◌, ◌==◌, cond, List, [], ◌∷◌, ◌++◌, length, take, drop, Option, Some, None, sym as flip, ◌∙◌, ap, subst, refl, arith}
use Rattle.std.specs.Prelude.{nat_lt, codes}
use Rattle.std.specs.Str.{bytes_eq}
use Rattle.std.specs.Str.Parse.{digits_value}
use Rattle.std.proofs.lemmas.List.{take-append-le, drop-append-le, length-append, length-drop, append-nil}
use Rattle.std.proofs.lemmas.Bool.Decides.{nat_tests}
use Rattle.httparse.specs.Grammar.{RequestHead}
use Rattle.httparse.proofs.GrammarLemmas.{request_unique}
use Rattle.pg_messages.specs.Head.{head_scan, Scan, open_head, over_limit, ended, IsHead}
use Rattle.pg_messages.specs.Messages.{Message, values_of, length_digits, is_last, fatal_message, what_of, with_body, with_length, with_lengths, too_long_body, of_head, IsNextAt, IsNext, WaitsFor}
use Rattle.pg_messages.proofs.Scans.{IsDecided, scan-stays, ScanIs, scan-is}

-- ---- a message by its head, whatever stands behind the head

-- a refusal that ends the connection and needs no body
record Fatal (k size : ℕ) (head : Option RequestHead) : Type 0 where
  message : Message
  closes : message.closes ≡ true
  as_long : message.size ≡ size
  is : (rest : List ℕ) → of_head k size rest head ≡ Some message

-- a message with a body of so many bytes
record Bodied (k size : ℕ) (head : Option RequestHead) : Type 0 where
  h : RequestHead
  n : ℕ
  few : n ≤ 65536
  is : (rest : List ℕ) → of_head k size rest head ≡ with_body k h size rest n

Told : ℕ → ℕ → Option RequestHead → Type 0
Told k size head = Fatal k size head ⊎ Bodied k size head

told-length : (k size : ℕ) (h : RequestHead) (digits : List ℕ) → ((rest : List ℕ) → of_head k size rest (Some h) ≡ with_length k h size rest digits) → Told k size (Some h)
unfolding Told
told-length k size h digits is =
    (elim (nat_lt 65536 (digits_value 10 digits)) as (λ v. nat_lt 65536 (digits_value 10 digits) ≡ v
    → ((rest : List ℕ) → of_head k size rest (Some h) ≡ cond v (Some (fatal_message 413 size (too_long_body digits))) (with_body k h size rest (digits_value 10 digits))) → Told k size (Some h)) [
      | true ↦ λ e i. inl (record { message = fatal_message 413 size (too_long_body digits); closes = refl; as_long = refl; is = i })
      | false ↦ λ e i. inr (record { h = h; n = digits_value 10 digits; few = grind (arith, nat_tests, e); is = i })
    ]) refl is

told-lengths : (k size : ℕ) (h : RequestHead) (digits : Option (List ℕ)) → ((rest : List ℕ) → of_head k size rest (Some h) ≡ with_lengths k h size rest digits) → Told k size (Some h)
unfolding Told
told-lengths k size h None is = inl (record { message = fatal_message 400 size (codes "{\"error\":\"length\"}"); closes = refl; as_long = refl; is = is })
told-lengths k size h (Some digits) is =
    (elim (nat_lt 0 (length (values_of (codes "transfer-encoding") h.fields))) as (λ v.
    ((rest : List ℕ) → of_head k size rest (Some h) ≡ cond v (Some (fatal_message 501 size (codes "{\"error\":\"transfer-coding\"}"))) (with_length k h size rest digits)) → Told k size (Some h)) [
      | true ↦ λ i. inl (record { message = fatal_message 501 size (codes "{\"error\":\"transfer-coding\"}"); closes = refl; as_long = refl; is = i })
      | false ↦ λ i. told-length k size h digits i
    ]) is

told : (k size : ℕ) (head : Option RequestHead) → Told k size head
unfolding Told
told k size None = inl (record { message = fatal_message 400 size (codes "{\"error\":\"head\"}"); closes = refl; as_long = refl; is = λ rest. refl })
told k size (Some h) = told-lengths k size h (length_digits (values_of (codes "content-length") h.fields)) (λ rest. refl)

-- what a body says of the bytes behind the head
record BodyIs (k : ℕ) (h : RequestHead) (size : ℕ) (rest : List ℕ) (n : ℕ) (m : Message) : Type 0 where
  there : n ≤ length rest
  message : m ≡ record { what = what_of h (take n rest); size = size + n; closes = is_last k h }

body-is : (k : ℕ) (h : RequestHead) (size : ℕ) (rest : List ℕ) (n : ℕ) (m : Message) → with_body k h size rest n ≡ Some m → BodyIs k h size rest n m
body-is k h size rest n m e =
    (elim (nat_lt (length rest) n) as (λ v. nat_lt (length rest) n ≡ v → cond v None (Some (record { what = what_of h (take n rest); size = size + n; closes = is_last k h })) ≡ Some m → BodyIs k h size rest n m) [
      | true ↦ λ t e. let bad : ⊥ = cc in absurd bad
      | false ↦ λ t e. record { there = grind (arith, nat_tests, t); message = cc }
    ]) refl e

some-none : (m : Message) → Some m ≡ None → ⊥
some-none m e = cc

body-waits : (k : ℕ) (h : RequestHead) (size : ℕ) (rest : List ℕ) (n : ℕ) → with_body k h size rest n ≡ None → length rest < n
body-waits k h size rest n e =
    (elim (nat_lt (length rest) n) as (λ v. nat_lt (length rest) n ≡ v → cond {A = Option Message} v None (Some (record { what = what_of h (take n rest); size = size + n; closes = is_last k h })) ≡ None → length rest < n) [
      | true ↦ λ t e. grind (arith, nat_tests, t)
      | false ↦ λ t e. absurd (some-none _ e)
    ]) refl e

no-body : (k : ℕ) (h : RequestHead) (size : ℕ) (rest : List ℕ) (n : ℕ) → length rest < n → with_body k h size rest n ≡ None
no-body k h size rest n lt = let e : nat_lt (length rest) n ≡ true = grind (arith, nat_tests, lt) in rw e refl

body-stays : (k : ℕ) (h : RequestHead) (size : ℕ) (rest more : List ℕ) (n : ℕ) → n ≤ length rest → with_body k h size (rest ++ more) n ≡ with_body k h size rest n
body-stays k h size rest more n le =
    let one : nat_lt (length rest) n ≡ false = grind (arith, nat_tests, le) in
    let two : nat_lt (length (rest ++ more)) n ≡ false = grind (arith, nat_tests, le, length-append rest more) in
    let front : take n (rest ++ more) ≡ take n rest = take-append-le n rest more le in
    rw (one, two, front) refl

-- ---- of_head

of-head-stays : (k size : ℕ) (rest more : List ℕ) (head : Option RequestHead) (m : Message) → of_head k size rest head ≡ Some m → of_head k size (rest ++ more) head ≡ Some m
unfolding Told
of-head-stays k size rest more head m e =
    (elim (told k size head) [
      | inl f ↦ f.is (rest ++ more) ∙ flip (f.is rest) ∙ e
      | inr b ↦
          let there = (body-is k b.h size rest b.n m (flip (b.is rest) ∙ e)).there in
          b.is (rest ++ more) ∙ body-stays k b.h size rest more b.n there ∙ flip (b.is rest) ∙ e
    ])

of-head-within : (k size : ℕ) (rest : List ℕ) (head : Option RequestHead) (m : Message) → of_head k size rest head ≡ Some m → m.size ≤ size + length rest
unfolding Told
of-head-within k size rest head m e =
    (elim (told k size head) [
      | inl f ↦ let same : f.message ≡ m = some-one (flip (f.is rest) ∙ e) in omega (arith, ap (λ x. x.size) same, f.as_long)
      | inr b ↦
          let is = body-is k b.h size rest b.n m (flip (b.is rest) ∙ e) in
          omega (arith, is.there, ap (λ x. x.size) is.message)
    ])
  where
    some-one : {a b : Message} → Some a ≡ Some b → a ≡ b
    some-one e = cc

of-head-ends : (k size : ℕ) (rest : List ℕ) (head : Option RequestHead) (m : Message) → of_head k size rest head ≡ Some m → m.closes ≡ false → k ≡ 999 → ⊥
unfolding Told
of-head-ends k size rest head m e open_ last =
    (elim (told k size head) [
      | inl f ↦ let same = flip (f.is rest) ∙ e in let bad : ⊥ = closed-open f.message m same f.closes open_ in bad
      | inr b ↦
          let is = body-is k b.h size rest b.n m (flip (b.is rest) ∙ e) in
          at b.h (flip (ap (λ x. x.closes) is.message) ∙ open_)
    ])
  where
    closed-open : (a b : Message) → Some a ≡ Some b → a.closes ≡ true → b.closes ≡ false → ⊥
    closed-open a b e x y = cc

    closing : (a b c : Bool) → b ≡ true → (a || b || c) ≡ false → ⊥
    closing true b c x y = cc
    closing false true c x y = cc
    closing false false c x y = cc

    at : (h : RequestHead) → is_last k h ≡ false → ⊥
    at h e =
        let thousandth : (k == 999) ≡ true = grind (arith, nat_tests, last) in
        closing ((h.minor == 0) || bytes_eq h.method (codes "HEAD")) (k == 999) _ thousandth e

-- ---- the next message of some bytes

some-same : {a b : Message} → Some a ≡ Some b → a ≡ b
some-same e = cc

-- More bytes change nothing of a message that is decided.
pub stays : (k : ℕ) (bytes more : List ℕ) (m : Message) → IsNext k bytes (Some m) → IsNext k (bytes ++ more) (Some m)
stays k bytes more m h =
    (elim (head_scan bytes) as (λ s. head_scan bytes ≡ s → IsNextAt k bytes s (Some m) → IsNext k (bytes ++ more) (Some m)) [
      | open_head ↦ λ e i. absurd (some-none m i)
      | over_limit ↦ λ e i. scanned over_limit e tt i
      | ended blank n ↦ λ e i.
          let size : ScanIs (length bytes) (ended blank n) = subst (ScanIs (length bytes)) e (scan-is bytes) in
          let back : drop blank (bytes ++ more) ≡ drop blank bytes ++ more = drop-append-le blank bytes more (omega (arith, size.0)) in
          let front : take n (drop blank bytes ++ more) ≡ take n (drop blank bytes) = take-append-le n (drop blank bytes) more (omega (arith, size.0, length-drop blank bytes)) in
          let rest : drop (blank + n) (bytes ++ more) ≡ drop (blank + n) bytes ++ more = drop-append-le (blank + n) bytes more size.0 in
          let same : take n (drop blank (bytes ++ more)) ≡ take n (drop blank bytes) = ap (take n) back ∙ front in
          let goes = of-head-stays k (blank + n) (drop (blank + n) bytes) more i.0 m (flip i.2) in
          scanned (ended blank n) e tt
          (i.0, subst (λ b. IsHead b i.0) (flip same) i.1, flip (ap (λ r. of_head k (blank + n) r i.0) rest ∙ goes))
    ]) refl h
  where
    scanned : (s : Scan) → head_scan bytes ≡ s → IsDecided s → IsNextAt k (bytes ++ more) s (Some m) → IsNext k (bytes ++ more) (Some m)
    scanned s e d i =
        let there : head_scan (bytes ++ more) ≡ s = scan-stays bytes more (subst IsDecided (flip e) d) ∙ e in
        subst (λ x. IsNextAt k (bytes ++ more) x (Some m)) (flip there) i

-- A decided message lies in its bytes.
pub within : (k : ℕ) (bytes : List ℕ) (m : Message) → IsNext k bytes (Some m) → m.size ≤ length bytes
within k bytes m h =
    (elim (head_scan bytes) as (λ s. head_scan bytes ≡ s → IsNextAt k bytes s (Some m) → m.size ≤ length bytes) [
      | open_head ↦ λ e i. absurd (some-none m i)
      | over_limit ↦ λ e i. omega (arith, ap (λ x. x.size) (some-same i))
      | ended blank n ↦ λ e i.
          let size : ScanIs (length bytes) (ended blank n) = subst (ScanIs (length bytes)) e (scan-is bytes) in
          omega (arith, size.0, of-head-within k (blank + n) (drop (blank + n) bytes) i.0 m (flip i.2), length-drop (blank + n) bytes)
    ]) refl h

-- The thousandth message is the last.
pub ends : (k : ℕ) (bytes : List ℕ) (m : Message) → IsNext k bytes (Some m) → m.closes ≡ false → k ≡ 999 → ⊥
ends k bytes m h open_ last =
    (elim (head_scan bytes) as (λ s. IsNextAt k bytes s (Some m) → ⊥) [
      | open_head ↦ λ i. some-none m i
      | over_limit ↦ λ i. at (some-same i)
      | ended blank n ↦ λ i. of-head-ends k (blank + n) (drop (blank + n) bytes) i.0 m (flip i.2) open_ last
    ]) h
  where
    at : m ≡ fatal_message 431 0 (codes "{\"error\":\"head-limit\"}") → ⊥
    at e = let shut : m.closes ≡ true = ap (λ x. x.closes) e in cc

-- Where a message is not decided, the bytes are fewer than the largest message has, and fewer than so many in all leave it undecided.
pub waits-for-body : (k : ℕ) (bytes : List ℕ) (blank n : ℕ) (h : RequestHead) (size : ℕ) → head_scan bytes ≡ ended blank n → IsHead (take n (drop blank bytes)) (Some h) → size ≤ 65536
    → ((rest : List ℕ) → of_head k (blank + n) rest (Some h) ≡ with_body k h (blank + n) rest size) → length (drop (blank + n) bytes) < size
    → WaitsFor k bytes (blank + n + size)
waits-for-body k bytes blank n h size e is few told short =
    let lies : ScanIs (length bytes) (ended blank n) = subst (ScanIs (length bytes)) e (scan-is bytes) in (
      omega (arith, lies.0, short, length-drop (blank + n) bytes),
      omega (arith, lies.1, few),
      λ more lt. undecided more lies.0 lt,
    )
  where
    undecided : (more : List ℕ) → blank + n ≤ length bytes → length bytes + length more < blank + n + size → IsNext k (bytes ++ more) None
    undecided more le lt =
        let there : head_scan (bytes ++ more) ≡ ended blank n = scan-stays bytes more (subst IsDecided (flip e) tt) ∙ e in
        let back : drop blank (bytes ++ more) ≡ drop blank bytes ++ more = drop-append-le blank bytes more (omega (arith, le)) in
        let front : take n (drop blank bytes ++ more) ≡ take n (drop blank bytes) = take-append-le n (drop blank bytes) more (omega (arith, le, length-drop blank bytes)) in
        let same : take n (drop blank (bytes ++ more)) ≡ take n (drop blank bytes) = ap (take n) back ∙ front in
        let rest = drop (blank + n) (bytes ++ more) in
        let few_left : length rest < size = omega (arith, lt, length-drop (blank + n) (bytes ++ more), length-append bytes more) in
        let none : None ≡ of_head k (blank + n) rest (Some h) = flip (told rest ∙ no-body k h (blank + n) rest size few_left) in
        subst (λ x. IsNextAt k (bytes ++ more) x None) (flip there) (Some h, subst (λ b. IsHead b (Some h)) (flip same) is, none)

pub waits-for-head : (k : ℕ) (bytes : List ℕ) → head_scan bytes ≡ open_head → WaitsFor k bytes (length bytes + 1)
waits-for-head k bytes e =
    let short : ScanIs (length bytes) open_head = subst (ScanIs (length bytes)) e (scan-is bytes) in
    (omega arith, omega (arith, short), λ more lt. undecided more (omega (arith, lt)))
  where
    undecided : (more : List ℕ) → length more ≡ 0 → IsNext k (bytes ++ more) None
    undecided [] none = rw append-nil (subst (λ s. IsNextAt k bytes s None) (flip e) refl)
    undecided (x ∷ more) none = absurd (omega (arith, none))

-- ---- one message, one split

head-unique : (bytes : List ℕ) (a b : Option RequestHead) → IsHead bytes a → IsHead bytes b → a ≡ b
head-unique bytes None None x y = refl
head-unique bytes None (Some h) x y = absurd (x h y)
head-unique bytes (Some h) None x y = absurd (y h x)
head-unique bytes (Some h) (Some k) x y = ap Some (request_unique bytes h k [] [] x.0 y.0).0

-- The message at the front of the bytes is one.
pub unique : (k : ℕ) (bytes : List ℕ) (a b : Option Message) → IsNext k bytes a → IsNext k bytes b → a ≡ b
unique k bytes a b x y =
    (elim (head_scan bytes) as (λ s. IsNextAt k bytes s a → IsNextAt k bytes s b → a ≡ b) [
      | open_head ↦ λ i j. i ∙ flip j
      | over_limit ↦ λ i j. i ∙ flip j
      | ended blank n ↦ λ i j.
          let same = head-unique (take n (drop blank bytes)) i.0 j.0 i.1 j.1 in
          i.2 ∙ ap (λ h. of_head k (blank + n) (drop (blank + n) bytes) h) same ∙ flip j.2
    ]) x y

-- Where no message is decided, the bytes are fewer than the largest message has.
pub decided : (k : ℕ) (bytes : List ℕ) → IsNext k bytes None → length bytes < 81920
unfolding Told
decided k bytes h =
    (elim (head_scan bytes) as (λ s. head_scan bytes ≡ s → IsNextAt k bytes s None → length bytes < 81920) [
      | open_head ↦ λ e i.
          let short : ScanIs (length bytes) open_head = subst (ScanIs (length bytes)) e (scan-is bytes) in
          omega (arith, short)
      | over_limit ↦ λ e i. absurd (some-none _ (flip i))
      | ended blank n ↦ λ e i.
          let lies : ScanIs (length bytes) (ended blank n) = subst (ScanIs (length bytes)) e (scan-is bytes) in
          let rest = drop (blank + n) bytes in
          (elim (told k (blank + n) i.0) [
            | inl f ↦ absurd (some-none f.message (flip (f.is rest) ∙ flip i.2))
            | inr b ↦
                let short = body-waits k b.h (blank + n) rest b.n (flip (b.is rest) ∙ flip i.2) in
                omega (arith, lies.0, lies.1, b.few, short, length-drop (blank + n) bytes)
          ])
    ]) refl h
