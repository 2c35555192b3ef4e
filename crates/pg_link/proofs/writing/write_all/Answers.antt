use Rattle.std.proofs.Common.{arith, subst, List, ℕ, take, ◌∙◌}
use Rattle.std.specs.Io.KnownBytes.{Appends}
use Rattle.pg_link.proofs.Taking.{appends-more}
use Rattle.pg_link.proofs.writing.write_all.Goals as goal

pub loop-at-preserved : goal.loop-at-preserved
loop-at-preserved g c =
    let P : List ℕ → Type 0 = λ t. Appends (g.L.Sink.written c.loop-at.out) (g.L.Sink.written c.write.new.self) (take c.in_ok-count.count t) in
    record {
      wrote = appends-more _ _ _ c.args.text.now c.loop-at.at c.in_ok-count.count c.loop-at.invariant.wrote (subst P c.split_at.ensures.back c.in_ok-count.ensures.bytes.2);
      later = omega (arith, c.in_ok-count.ensures.cause.later, c.loop-at.invariant.later);
      within = omega (arith, c.in_ok-count.ensures.bytes.1, c.split_at.ensures.back_len);
      left = (g.met.L.Link.writes_apart _ _ c.write.ensures.leaves).0 ∙ c.loop-at.invariant.left;
      reads = (g.met.L.Link.writes_apart _ _ c.write.ensures.leaves).1 ∙ c.loop-at.invariant.reads;
    }
