-- Taking the front of a source, piece by piece.
use Rattle.std.proofs.Common.{◌≡◌, ◌≤◌, ℕ, List, [], ◌++◌, length, take, drop, ◌+◌, Option, Some, None, sym as flip, ◌∙◌, ap, refl, subst, arith, append_assoc}
use Rattle.std.proofs.lemmas.List.{take_at, take_all, append-nil, length-append, length-take-le, drop_at, drop_all, take-append-drop, drop-take, take-take}
use Rattle.std.specs.Io.KnownBytes.{Keeps, Consumes, Appends}
use Rattle.pg_base.specs.Outside.{EndsAt}
use Rattle.pg_run.specs.Asked.{LeavesBehind, LeavesPart}
use Rattle.pg_run.specs.Script.{TookFront}

-- no byte was left where the last read gave none
pub took-all : (old now : Option (List ℕ)) (front : List ℕ) (n : ℕ) → Consumes old now front → EndsAt now n → n ≡ 0 → length front ≤ 16385 → TookFront old front
took-all None now front n h k none le = tt
took-all (Some xs) None front n h k none le = absurd h
took-all (Some xs) (Some ys) front n h k none le =
    let e : xs ≡ front = h ∙ ap (λ r. front ++ r) (k.0 none) ∙ append-nil front in
    flip (take_all 16385 front le) ∙ ap (take 16385) (flip e)

pub took-front : (old now : Option (List ℕ)) (front : List ℕ) → Consumes old now front → length front ≡ 16385 → TookFront old front
took-front None now front h is = tt
took-front (Some xs) None front h is = absurd h
took-front (Some xs) (Some ys) front h is = flip (ap (take 16385) h ∙ take_at front ys 16385 is)

-- what stands behind the front that was taken
taken-rest : (xs front ys : List ℕ) → xs ≡ front ++ ys → ys ≡ drop (length front) xs
taken-rest xs front ys h = flip (ap (drop (length front)) h ∙ drop_at front ys (length front) refl)

-- nothing is left behind the limit where the last read gave none
pub left-none : (old mid now : Option (List ℕ)) (front into : List ℕ) (n : ℕ) → Consumes old mid front → Consumes mid now (take n into) → EndsAt mid n → n ≡ 0
    → length front ≤ 16385 → LeavesBehind old now
left-none None mid now front into n h r k none le = tt
left-none (Some xs) None now front into n h r k none le = absurd h
left-none (Some xs) (Some ys) None front into n h r k none le = absurd r
left-none (Some xs) (Some ys) (Some zs) front into n h r k none le =
    let P : ℕ → Type 0 = λ i. ys ≡ take i into ++ zs in
    let rest : zs ≡ [] = flip (subst P none r) ∙ k.0 none in
    let e : xs ≡ front = h ∙ ap (λ r. front ++ r) (k.0 none) ∙ append-nil front in
    ap Some (rest ∙ flip (ap (drop 16385) e ∙ drop_all 16385 front le))

-- the limit was reached
pub left-behind : (old now : Option (List ℕ)) (front : List ℕ) → Consumes old now front → length front ≡ 16385 → LeavesBehind old now
left-behind None now front h is = tt
left-behind (Some xs) None front h is = absurd h
left-behind (Some xs) (Some ys) front h is = ap Some (taken-rest xs front ys h ∙ ap (λ n. drop n xs) is)

-- some of the bytes up to the limit were taken
pub left-part : (old now : Option (List ℕ)) (front : List ℕ) → Consumes old now front → length front ≤ 16385 → LeavesPart old now
left-part None now front h le = tt
left-part (Some xs) None front h le = absurd h
left-part (Some xs) (Some ys) front h le = (length front, le, ap Some (taken-rest xs front ys h))

-- a read that failed took none more
pub left-kept : (old mid now : Option (List ℕ)) (front : List ℕ) → Consumes old mid front → Keeps mid now → length front ≤ 16385 → LeavesPart old now
left-kept None mid now front h k le = tt
left-kept (Some xs) None now front h k le = absurd h
left-kept (Some xs) (Some ys) None front h k le = absurd k
left-kept (Some xs) (Some ys) (Some zs) front h k le = left-part (Some xs) (Some zs) front (h ∙ ap (λ r. front ++ r) (flip k)) le

-- a read took n bytes more
pub left-more : (old mid now : Option (List ℕ)) (front into : List ℕ) (n : ℕ) → Consumes old mid front → Consumes mid now (take n into) → n ≤ length into
    → length front + n ≤ 16385 → LeavesPart old now
left-more None mid now front into n h r fits le = tt
left-more (Some xs) None now front into n h r fits le = absurd h
left-more (Some xs) (Some ys) None front into n h r fits le = absurd r
left-more (Some xs) (Some ys) (Some zs) front into n h r fits le =
    let whole : xs ≡ (front ++ take n into) ++ zs = h ∙ ap (λ t. front ++ t) r ∙ flip (append_assoc front (take n into) zs) in
    let size : length (front ++ take n into) ≤ 16385 = omega (arith, length-append front (take n into), length-take-le n into fits, le) in
    left-part (Some xs) (Some zs) (front ++ take n into) whole size

take-split : (at n : ℕ) (text : List ℕ) → take at text ++ take n (drop at text) ≡ take (at + n) text
take-split at n text =
    let whole = take-append-drop at (take (at + n) text) in
    let back = drop-take at n text in
    let front : take at (take (at + n) text) ≡ take at text = take-take at (at + n) text (omega arith) in
    ap (λ f. f ++ take n (drop at text)) (flip front) ∙ ap (λ b. take at (take (at + n) text) ++ b) (flip back) ∙ whole

pub appends-more : (old mid new : Option (List ℕ)) (text : List ℕ) (at n : ℕ) → Appends old mid (take at text) → Appends mid new (take n (drop at text)) → Appends old new (take (at + n) text)
appends-more None mid new text at n h k = tt
appends-more (Some xs) None new text at n h k = absurd h
appends-more (Some xs) (Some ys) None text at n h k = absurd k
appends-more (Some xs) (Some ys) (Some zs) text at n h k =
    k ∙ ap (λ r. r ++ take n (drop at text)) h ∙ append_assoc xs (take at text) (take n (drop at text)) ∙ ap (λ r. xs ++ r) (take-split at n text)
