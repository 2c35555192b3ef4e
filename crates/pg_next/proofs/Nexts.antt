-- The message at the front, by what was read of its head.
use Rattle.std.proofs.Common.{◌≡◌, ◌≤◌, ℕ, ◌+◌, List, length, take, drop, Some, sym as flip, ◌∙◌, ap, subst}
use Rattle.std.proofs.lemmas.List.{drop-take}
use Rattle.httparse.specs.Grammar.{RequestHead}
use Rattle.pg_messages.specs.Head.{head_scan, ended, IsWholeHead}
use Rattle.pg_messages.specs.Messages.{IsNextAt, WaitsFor}
use Rattle.pg_messages.proofs.Scans.{ScanIs, scan-is}
use Rattle.pg_messages.proofs.Laws.{waits-for-body}
use Rattle.pg_next.specs.View.{IsNextTold, IsTold, message_view}
use Rattle.pg_next.specs.declared.next.Next.{Next}
use Rattle.pg_next.specs.declared.next.Next.TheVariants as nexts

-- a head that has ended lies in the bytes, and is short
pub ended-is : (bytes : List ℕ) (blank n : ℕ) → ended blank n ≡ head_scan bytes → (blank + n ≤ length bytes) × (blank + n ≤ 16384)
ended-is bytes blank n e = subst (ScanIs (length bytes)) (flip e) (scan-is bytes)

-- the bytes of the head, cut out in two steps
pub head-cut : (bytes : List ℕ) (blank n : ℕ) (front head : List ℕ) → front ≡ take (blank + n) bytes → head ≡ drop blank front → head ≡ take n (drop blank bytes)
head-cut bytes blank n front head f h = h ∙ ap (drop blank) f ∙ drop-take blank n bytes

pub next-told : (number : ℕ) (bytes : List ℕ) (blank n : ℕ) (h : RequestHead) (r : Next) → ended blank n ≡ head_scan bytes
    → IsWholeHead (take n (drop blank bytes)) h → IsTold number (blank + n) (drop (blank + n) bytes) h r → IsNextTold number bytes r
next-told number bytes blank n h (nexts.Message m) e is told =
    subst (λ s. IsNextAt number bytes s (Some (message_view m))) e (Some h, is, told)
next-told number bytes blank n h (nexts.Wants wanted) e is told =
    let waits = waits-for-body number bytes blank n h told.0 (flip e) is told.1 told.4 told.2 in
    subst (WaitsFor number bytes) (flip told.3) waits
