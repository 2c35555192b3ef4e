-- The text of a certificate. A proof has a line for each node, the premises of a node before it, the first premise first.
use Rattle.std.specs.Prelude.{ℕ, ◌+◌, ◌-◌, List, [], ◌∷◌, ◌++◌, flat_map, codes, decimal}
use Rattle.pg_logic.specs.Tree.{Fm, Tm}
use Rattle.pg_logic.specs.Kernel.{Pf, proof_nodes, hyp, thm, andi, andl, andr, orl, orr, ore, impi, impe, fale, lem, alli, alle, exi, exe, reflexive, repl, ind, predi, prede}
use Rattle.pg_cert.specs.Spelling.{term_text, formula_text}

-- the number of a premise's line
abbrev pub premise_text : ℕ → List ℕ
premise_text m = codes " #" ++ decimal m

-- a line: its number, its rule with the rule's fields, and the numbers of the lines of its premises
abbrev pub line_text : ℕ → List ℕ → List ℕ → List ℕ
line_text n rule premises = decimal n ++ codes " " ++ rule ++ flat_map premise_text premises ++ codes "\n"

-- a field of a rule
abbrev pub number : ℕ → List ℕ
number n = codes " " ++ decimal n

abbrev pub formula : Fm → List ℕ
formula a = codes " " ++ formula_text a

abbrev pub term : Tm → List ℕ
term t = codes " " ++ term_text t

-- the number after that of a proof's last line, and the number of its last line, which is its root's, where the first line has number n
abbrev pub after : Pf → ℕ → ℕ
after p n = n + proof_nodes p

abbrev pub root : Pf → ℕ → ℕ
root p n = after p n - 1

-- the lines of a node with no, one, two or three premises, from number n on; lines is what a premise's lines are from a number on
abbrev pub leaf : List ℕ → ℕ → List ℕ
leaf rule n = line_text n rule []

abbrev pub one : List ℕ → Pf → (ℕ → List ℕ) → ℕ → List ℕ
one rule p lines n = lines n ++ line_text (after p n) rule (root p n ∷ [])

abbrev pub two : List ℕ → Pf → (ℕ → List ℕ) → Pf → (ℕ → List ℕ) → ℕ → List ℕ
two rule p p_lines q q_lines n = p_lines n ++ q_lines (after p n) ++ line_text (after q (after p n)) rule (root p n ∷ root q (after p n) ∷ [])

abbrev pub three : List ℕ → Pf → (ℕ → List ℕ) → Pf → (ℕ → List ℕ) → Pf → (ℕ → List ℕ) → ℕ → List ℕ
three rule p p_lines q q_lines r r_lines n =
    p_lines n ++ q_lines (after p n) ++ r_lines (after q (after p n))
    ++ line_text (after r (after q (after p n))) rule (root p n ∷ root q (after p n) ∷ root r (after q (after p n)) ∷ [])

-- the lines of a proof, from number n on
abbrev pub proof_text : Pf → ℕ → List ℕ
proof_text (hyp i) = leaf (codes "hyp" ++ number i)
proof_text (thm k) = leaf (codes "thm" ++ number k)
proof_text (andi p q) = two (codes "andi") p (proof_text p) q (proof_text q)
proof_text (andl b p) = one (codes "andl" ++ formula b) p (proof_text p)
proof_text (andr a p) = one (codes "andr" ++ formula a) p (proof_text p)
proof_text (orl p) = one (codes "orl") p (proof_text p)
proof_text (orr p) = one (codes "orr") p (proof_text p)
proof_text (ore a b p q r) = three (codes "ore" ++ formula a ++ formula b) p (proof_text p) q (proof_text q) r (proof_text r)
proof_text (impi p) = one (codes "impi") p (proof_text p)
proof_text (impe a p q) = two (codes "impe" ++ formula a) p (proof_text p) q (proof_text q)
proof_text (fale p) = one (codes "fale") p (proof_text p)
proof_text lem = leaf (codes "lem")
proof_text (alli p) = one (codes "alli") p (proof_text p)
proof_text (alle a t p) = one (codes "alle" ++ formula a ++ term t) p (proof_text p)
proof_text (exi t p) = one (codes "exi" ++ term t) p (proof_text p)
proof_text (exe a p q) = two (codes "exe" ++ formula a) p (proof_text p) q (proof_text q)
proof_text reflexive = leaf (codes "refl")
proof_text (repl a s t p q) = two (codes "repl" ++ formula a ++ term s ++ term t) p (proof_text p) q (proof_text q)
proof_text (ind a t p q) = two (codes "ind" ++ formula a ++ term t) p (proof_text p) q (proof_text q)
proof_text (predi p) = one (codes "predi") p (proof_text p)
proof_text (prede a p) = one (codes "prede" ++ formula a) p (proof_text p)

-- the certificate of a world's level, with its proof
abbrev pub certificate_text : List ℕ → ℕ → Pf → List ℕ
certificate_text world level p = codes "cert 1\nlevel " ++ world ++ number level ++ codes "\n" ++ proof_text p 1 ++ codes "end\n"
