-- What is sent of a reply.
use Rattle.std.proofs.Common.{◌≡◌, ℕ, Bool, true, false, ◌==◌, cond, List, ◌++◌, Option, sym as flip, ◌∙◌, ap, refl, arith}
use Rattle.std.proofs.lemmas.Bool.Decides.{nat_tests}
use Rattle.pg_messages.specs.Paths.{Verb}
use Rattle.pg_messages.specs.Replies.{Said, memory_reply, as_sent, message_bytes, reply_bytes}

pub sent-memory : (said : Said) (allow : Option Verb) (closes : Bool) → said.status ≡ 507 → message_bytes memory_reply allow closes ≡ reply_bytes said allow closes
unfolding reply_bytes
sent-memory said allow closes e =
    let is : (said.status == 507) ≡ true = grind (arith, nat_tests, e) in
    let sent : as_sent said ≡ memory_reply = rw is refl in
    ap (λ s. message_bytes s allow closes) (flip sent)

pub sent-plain : (said : Said) (allow : Option Verb) (closes : Bool) → (said.status ≡ 507 → ⊥) → message_bytes said allow closes ≡ reply_bytes said allow closes
unfolding reply_bytes
sent-plain said allow closes e =
    let is : (said.status == 507) ≡ false = grind (arith, nat_tests, e) in
    let sent : as_sent said ≡ said = rw is refl in
    ap (λ s. message_bytes s allow closes) (flip sent)

pub joined-same : (a x b y c z d : List ℕ) → a ≡ x → b ≡ y → c ≡ z → a ++ (b ++ (c ++ d)) ≡ x ++ (y ++ (z ++ d))
joined-same a x b y c z d e f g =
    ap (λ p. p ++ (b ++ (c ++ d))) e ∙ ap (λ p. x ++ (p ++ (c ++ d))) f ∙ ap (λ p. x ++ (y ++ (p ++ d))) g
