-- Writing what is open from a stack writes the lines of a proof.
use Rattle.std.proofs.Common.{◌≡◌, ℕ, ◌+◌, ◌-◌, ◌*◌, ◌<◌, List, [], ◌∷◌, ◌++◌, length, map, take, drop, refl, arith, ap, sym, ◌∙◌, rules}
use Rattle.std.proofs.Math.Seq.{drop-append_seam, take-append_seam}
use Rattle.std.proofs.lemmas.List.{length-append, append_assoc, map-append}
use Rattle.pg_logic.specs.Kernel.{Pf, proof_nodes, hyp, thm, andi, andl, andr, orl, orr, ore, impi, impe, fale, lem, alli, alle, exi, exe, reflexive, repl, ind, predi, prede}
use Rattle.pg_cert.specs.declared.tasks.Task as code
use Rattle.pg_cert.specs.View.{task}
use Rattle.pg_cert.specs.Certificates.{line_text, after, root, leaf, one, two, three, proof_text}
use Rattle.pg_cert.specs.Open.{rule_text, premises, Lines, Task, whole, last, with_proof, with_line, done, all_done, tasks_of}

pub all_done-append : (ts us : List Task) (s : Lines) → all_done (ts ++ us) s ≡ all_done ts (all_done us s)
all_done-append [] us s = refl
all_done-append (t ∷ ts) us s = ap (done t) (all_done-append ts us s)

drop_last : (us vs : List ℕ) (k : ℕ) → length vs ≡ k → drop (length (us ++ vs) - k) (us ++ vs) ≡ vs
drop_last us vs k e =
    let at : length (us ++ vs) - k ≡ length us = let l = length-append us vs in omega (arith, l, e) in
    ap (λ i. drop i (us ++ vs)) at ∙ drop-append_seam us vs

take_last : (us vs : List ℕ) (k : ℕ) → length vs ≡ k → take (length (us ++ vs) - k) (us ++ vs) ≡ us
take_last us vs k e =
    let at : length (us ++ vs) - k ≡ length us = let l = length-append us vs in omega (arith, l, e) in
    ap (λ i. take i (us ++ vs)) at ∙ take-append_seam us vs

abbrev lines : List ℕ → List ℕ → ℕ → Lines
lines t u n = record { text = t; unused = u; next = n }

lines-same : (t s u v : List ℕ) (n m : ℕ) → t ≡ s → u ≡ v → n ≡ m → lines t u n ≡ lines s v m
lines-same t s u v n m e f g = search (e, f, g)

-- a line behind its premises' lines
closed : (t body u rs : List ℕ) (n k : ℕ) (rule : List ℕ) → length rs ≡ k →
    with_line k rule (lines (t ++ body) (u ++ rs) n) ≡ lines (t ++ (body ++ line_text n rule rs)) (u ++ n ∷ []) (n + 1)
closed t body u rs n k rule e =
    lines-same _ _ _ _ _ _ (ap (λ vs. (t ++ body) ++ line_text n rule vs) (drop_last u rs k e) ∙ append_assoc t body _) (ap (λ us. us ++ n ∷ []) (take_last u rs k e)) refl

step_0 : (rule : List ℕ) (n m : ℕ) (t u : List ℕ) → n + 1 ≡ m → lines (t ++ leaf rule n) (u ++ (m - 1) ∷ []) m ≡ with_line 0 rule (lines t u n)
step_0 rule n m t u e = search (sym (closed t [] u [] n 0 rule refl), rules)

step_1 : (rule : List ℕ) (p : Pf) (n m : ℕ) (t u : List ℕ) → after p n + 1 ≡ m →
    lines (t ++ one rule p (proof_text p) n) (u ++ (m - 1) ∷ []) m ≡ with_line 1 rule (with_proof p (lines t u n))
step_1 rule p n m t u e =
    let at : m - 1 ≡ after p n = omega (arith, e) in
    lines-same _ _ _ _ _ _ refl (ap (λ i. u ++ i ∷ []) at) (sym e) ∙ sym (closed t (proof_text p n) u (root p n ∷ []) (after p n) 1 rule refl)

step_2 : (rule : List ℕ) (p q : Pf) (n m : ℕ) (t u : List ℕ) → after q (after p n) + 1 ≡ m →
    lines (t ++ two rule p (proof_text p) q (proof_text q) n) (u ++ (m - 1) ∷ []) m ≡ with_line 2 rule (with_proof q (with_proof p (lines t u n)))
step_2 rule p q n m t u e =
    let at : m - 1 ≡ after q (after p n) = omega (arith, e) in
    let k = after p n in
    lines-same _ _ _ _ _ _ refl (ap (λ i. u ++ i ∷ []) at) (sym e)
    ∙ sym (closed t (proof_text p n ++ proof_text q k) u (root p n ∷ root q k ∷ []) (after q k) 2 rule refl)
    ∙ ap (with_line 2 rule) (lines-same _ _ _ _ _ _ (sym (append_assoc t (proof_text p n) (proof_text q k))) (sym (append_assoc u (root p n ∷ []) (root q k ∷ []))) refl)

step_3 : (rule : List ℕ) (p q r : Pf) (n m : ℕ) (t u : List ℕ) → after r (after q (after p n)) + 1 ≡ m →
    lines (t ++ three rule p (proof_text p) q (proof_text q) r (proof_text r) n) (u ++ (m - 1) ∷ []) m
    ≡ with_line 3 rule (with_proof r (with_proof q (with_proof p (lines t u n))))
step_3 rule p q r n m t u e =
    let k = after p n in
    let l = after q k in
    let at : m - 1 ≡ after r l = omega (arith, e) in
    lines-same _ _ _ _ _ _ refl (ap (λ i. u ++ i ∷ []) at) (sym e)
    ∙ sym (closed t (proof_text p n ++ proof_text q k ++ proof_text r l) u (root p n ∷ root q k ∷ root r l ∷ []) (after r l) 3 rule refl)
    ∙ ap (with_line 3 rule) (lines-same _ _ _ _ _ _
    (sym (append_assoc t (proof_text p n ++ proof_text q k) (proof_text r l)) ∙ ap (λ x. x ++ proof_text r l) (sym (append_assoc t (proof_text p n) (proof_text q k))))
    (sym (append_assoc (u ++ root p n ∷ []) (root q k ∷ []) (root r l ∷ []) ∙ append_assoc u (root p n ∷ []) (root q k ∷ root r l ∷ []))) refl)

-- a whole proof is written by writing its premises and then its own line
pub whole_step : (p : Pf) (s : Lines) → with_proof p s ≡ all_done (tasks_of p (premises p)) s
whole_step (hyp i) s = step_0 _ s.next _ s.text s.unused refl
whole_step (thm k) s = step_0 _ s.next _ s.text s.unused refl
whole_step (andi p q) s = step_2 _ p q s.next _ s.text s.unused (omega arith)
whole_step (andl b p) s = step_1 _ p s.next _ s.text s.unused (omega arith)
whole_step (andr a p) s = step_1 _ p s.next _ s.text s.unused (omega arith)
whole_step (orl p) s = step_1 _ p s.next _ s.text s.unused (omega arith)
whole_step (orr p) s = step_1 _ p s.next _ s.text s.unused (omega arith)
whole_step (ore a b p q r) s = step_3 _ p q r s.next _ s.text s.unused (omega arith)
whole_step (impi p) s = step_1 _ p s.next _ s.text s.unused (omega arith)
whole_step (impe a p q) s = step_2 _ p q s.next _ s.text s.unused (omega arith)
whole_step (fale p) s = step_1 _ p s.next _ s.text s.unused (omega arith)
whole_step lem s = step_0 _ s.next _ s.text s.unused refl
whole_step (alli p) s = step_1 _ p s.next _ s.text s.unused (omega arith)
whole_step (alle a t p) s = step_1 _ p s.next _ s.text s.unused (omega arith)
whole_step (exi t p) s = step_1 _ p s.next _ s.text s.unused (omega arith)
whole_step (exe a p q) s = step_2 _ p q s.next _ s.text s.unused (omega arith)
whole_step reflexive s = step_0 _ s.next _ s.text s.unused refl
whole_step (repl a s' t p q) s = step_2 _ p q s.next _ s.text s.unused (omega arith)
whole_step (ind a t p q) s = step_2 _ p q s.next _ s.text s.unused (omega arith)
whole_step (predi p) s = step_1 _ p s.next _ s.text s.unused (omega arith)
whole_step (prede a p) s = step_1 _ p s.next _ s.text s.unused (omega arith)

-- the task on top, done
pub top_done : (old new : List code.Task) (t : code.Task) (s : Lines) → old ≡ new ++ t ∷ [] → all_done (map task old) s ≡ all_done (map task new) (done (task t) s)
top_done old new t s e = ap (λ ts. all_done (map task ts) s) e ∙ ap (λ ts. all_done ts s) (map-append task new (t ∷ [])) ∙ all_done-append (map task new) (task t ∷ []) s

-- a whole proof taken off, and its node's tasks put in its place
pub whole_taken : (new opened : List code.Task) (p : Pf) (s : Lines) → map task opened ≡ map task new ++ tasks_of p (premises p) →
    all_done (map task opened) s ≡ all_done (map task new) (with_proof p s)
whole_taken new opened p s e =
    ap (λ ts. all_done ts s) e ∙ all_done-append (map task new) (tasks_of p (premises p)) s ∙ ap (all_done (map task new)) (sym (whole_step p s))

-- how much is left to do
abbrev pub weight : Task → ℕ
weight (whole p) = 2 * proof_nodes p
weight (last p) = 1

abbrev pub weights : List Task → ℕ
weights [] = 0
weights (t ∷ ts) = weight t + weights ts

pub weights-append : (ts us : List Task) → weights (ts ++ us) ≡ weights ts + weights us
weights-append [] us = omega arith
weights-append (t ∷ ts) us = let e = weights-append ts us in omega (arith, e)

pub weights_fall : (p : Pf) → weights (tasks_of p (premises p)) < 2 * proof_nodes p
weights_fall (hyp i) = omega arith
weights_fall (thm k) = omega arith
weights_fall (andi p q) = omega arith
weights_fall (andl b p) = omega arith
weights_fall (andr a p) = omega arith
weights_fall (orl p) = omega arith
weights_fall (orr p) = omega arith
weights_fall (ore a b p q r) = omega arith
weights_fall (impi p) = omega arith
weights_fall (impe a p q) = omega arith
weights_fall (fale p) = omega arith
weights_fall lem = omega arith
weights_fall (alli p) = omega arith
weights_fall (alle a t p) = omega arith
weights_fall (exi t p) = omega arith
weights_fall (exe a p q) = omega arith
weights_fall reflexive = omega arith
weights_fall (repl a s t p q) = omega arith
weights_fall (ind a t p q) = omega arith
weights_fall (predi p) = omega arith
weights_fall (prede a p) = omega arith

pub top_weighs : (old new : List code.Task) (t : code.Task) → old ≡ new ++ t ∷ [] → weights (map task old) ≡ weights (map task new) + weight (task t)
top_weighs old new t e =
    let parts = ap (λ ts. weights (map task ts)) e ∙ ap weights (map-append task new (t ∷ [])) ∙ weights-append (map task new) (task t ∷ []) in
    omega (arith, parts)

pub opened_weighs : (new opened : List code.Task) (p : Pf) → map task opened ≡ map task new ++ tasks_of p (premises p) → weights (map task opened) < weights (map task new) + 2 * proof_nodes p
opened_weighs new opened p e =
    let parts = ap weights e ∙ weights-append (map task new) (tasks_of p (premises p)) in
    let falls = weights_fall p in
    omega (arith, parts, falls)

-- the turns of the loop
pub whole_turn : (old new opened : List code.Task) (t : code.Task) (p : Pf) (s end : Lines) → old ≡ new ++ t ∷ [] → task t ≡ whole p →
    map task opened ≡ map task new ++ tasks_of p (premises p) → all_done (map task old) s ≡ end → all_done (map task opened) s ≡ end
whole_turn old new opened t p s end off is on before =
    whole_taken new opened p s on ∙ sym (top_done old new t s off ∙ ap (λ x. all_done (map task new) (done x s)) is) ∙ before

pub last_turn : (old new : List code.Task) (t : code.Task) (p : Pf) (s r end : Lines) → old ≡ new ++ t ∷ [] → task t ≡ last p →
    r ≡ with_line (length (premises p)) (rule_text p) s → all_done (map task old) s ≡ end → all_done (map task new) r ≡ end
last_turn old new t p s r end off is made before =
    ap (all_done (map task new)) made ∙ sym (top_done old new t s off ∙ ap (λ x. all_done (map task new) (done x s)) is) ∙ before

pub whole_falls : (old new opened : List code.Task) (t : code.Task) (p : Pf) → old ≡ new ++ t ∷ [] → task t ≡ whole p →
    map task opened ≡ map task new ++ tasks_of p (premises p) → weights (map task opened) < weights (map task old)
whole_falls old new opened t p off is on =
    let a = top_weighs old new t off in
    let w = ap weight is in
    let b = opened_weighs new opened p on in
    omega (arith, a, w, b)

pub last_falls : (old new : List code.Task) (t : code.Task) (p : Pf) → old ≡ new ++ t ∷ [] → task t ≡ last p → weights (map task new) < weights (map task old)
last_falls old new t p off is =
    let a = top_weighs old new t off in
    let w = ap weight is in
    omega (arith, a, w)
