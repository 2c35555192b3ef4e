-- Of use inside alone: the text of a rule, its premises, and the writing of a proof from a stack of what is open.
use Rattle.std.specs.Prelude.{ℕ, ◌+◌, ◌-◌, List, [], ◌∷◌, ◌++◌, length, take, drop, codes}
use Rattle.pg_logic.specs.Kernel.{Pf, hyp, thm, andi, andl, andr, orl, orr, ore, impi, impe, fale, lem, alli, alle, exi, exe, reflexive, repl, ind, predi, prede}
use Rattle.pg_cert.specs.Certificates.{line_text, number, formula, term, after, root, proof_text}

-- a rule's word with its fields
abbrev pub rule_text : Pf → List ℕ
rule_text (hyp i) = codes "hyp" ++ number i
rule_text (thm k) = codes "thm" ++ number k
rule_text (andi p q) = codes "andi"
rule_text (andl b p) = codes "andl" ++ formula b
rule_text (andr a p) = codes "andr" ++ formula a
rule_text (orl p) = codes "orl"
rule_text (orr p) = codes "orr"
rule_text (ore a b p q r) = codes "ore" ++ formula a ++ formula b
rule_text (impi p) = codes "impi"
rule_text (impe a p q) = codes "impe" ++ formula a
rule_text (fale p) = codes "fale"
rule_text lem = codes "lem"
rule_text (alli p) = codes "alli"
rule_text (alle a t p) = codes "alle" ++ formula a ++ term t
rule_text (exi t p) = codes "exi" ++ term t
rule_text (exe a p q) = codes "exe" ++ formula a
rule_text reflexive = codes "refl"
rule_text (repl a s t p q) = codes "repl" ++ formula a ++ term s ++ term t
rule_text (ind a t p q) = codes "ind" ++ formula a ++ term t
rule_text (predi p) = codes "predi"
rule_text (prede a p) = codes "prede" ++ formula a

abbrev pub premises : Pf → List Pf
premises (hyp i) = []
premises (thm k) = []
premises (andi p q) = p ∷ q ∷ []
premises (andl b p) = p ∷ []
premises (andr a p) = p ∷ []
premises (orl p) = p ∷ []
premises (orr p) = p ∷ []
premises (ore a b p q r) = p ∷ q ∷ r ∷ []
premises (impi p) = p ∷ []
premises (impe a p q) = p ∷ q ∷ []
premises (fale p) = p ∷ []
premises lem = []
premises (alli p) = p ∷ []
premises (alle a t p) = p ∷ []
premises (exi t p) = p ∷ []
premises (exe a p q) = p ∷ q ∷ []
premises reflexive = []
premises (repl a s t p q) = p ∷ q ∷ []
premises (ind a t p q) = p ∷ q ∷ []
premises (predi p) = p ∷ []
premises (prede a p) = p ∷ []

-- what stands so far: the text, the numbers of the lines that no line has used, and the next line's number
pub record Lines : Type 0 where
  pub text : List ℕ
  pub unused : List ℕ
  pub next : ℕ

-- a node that is to be written whole, or whose premises stand
pub data Task : Type 0 where
  whole : Pf → Task
  last : Pf → Task

-- with the lines of a whole proof
abbrev pub with_proof : Pf → Lines → Lines
with_proof p s = record { text = s.text ++ proof_text p s.next; unused = s.unused ++ root p s.next ∷ []; next = after p s.next }

-- with a line that uses the last k unused ones
abbrev pub with_line : ℕ → List ℕ → Lines → Lines
with_line k rule s =
    record { text = s.text ++ line_text s.next rule (drop (length s.unused - k) s.unused); unused = take (length s.unused - k) s.unused ++ s.next ∷ []; next = s.next + 1 }

abbrev pub done : Task → Lines → Lines
done (whole p) s = with_proof p s
done (last p) s = with_line (length (premises p)) (rule_text p) s

-- with all tasks done, the last first
abbrev pub all_done : List Task → Lines → Lines
all_done [] s = s
all_done (t ∷ ts) s = done t (all_done ts s)

-- the tasks of a node: its own line, after its premises, the first of them first
abbrev pub tasks_of : Pf → List Pf → List Task
tasks_of p [] = last p ∷ []
tasks_of p (q ∷ qs) = tasks_of p qs ++ whole q ∷ []
