use Rattle.std.proofs.Common.{◌≤◌, ◌+◌, subst, arith, ℕ, List, length, drop, Some, inr, vec_len}
use Rattle.pg_base.specs.Outside.{Rose}
use Rattle.pg_messages.specs.Head.{blank_len}
use Rattle.pg_messages.specs.Messages.{IsNext, WaitsFor, end_of_rest, end_after}
use Rattle.pg_messages.proofs.Going.{going-first}
use Rattle.pg_next.specs.View.{message_view}
use Rattle.pg_serve.specs.Serving.{end_view}
use Rattle.pg_serve.proofs.Turns.{on-answered, last-answered, drop-more, message-within, few-more, smaller, on-read, read-whole, read-out, read-lost, served, rose-before, behind, inside}
use Rattle.pg_serve.proofs.serving.serve.Goals as goal

pub loop-message-init : goal.loop-message-init
loop-message-init g c = record {
  going = going-first g.S.Service.answers c.args.service.now (g.L.Source.left c.args.link.now) (g.L.Sink.written c.args.link.now) c.new-buffer.result.items c.new-buffer.ensures.items;
  reads = omega arith;
  writes = omega arith;
  few = omega arith;
  small = omega (arith, c.new-buffer.ensures.len);
  within = omega arith;
}

pub returns-then-message : goal.returns-then-message
returns-then-message g c =
    let rest = drop c.loop-message.start c.loop-message.buffer.items in
    let m = message_view c.in-Message.message in
    let cut = behind c.loop-message.start c.split_at.result.1.now c.as_slice.result.now c.loop-message.buffer.items c.split_at.ensures.back c.as_slice.ensures.value in
    let is = subst (λ (b : List ℕ). IsNext c.loop-message.number b (Some m)) cut c.in-Message.ensures.next in
    let all = last-answered g.S.Service.answers c.args.service.now c.loop-message.service c.answer_message.new.service (g.L.Source.left c.args.link.now) (g.L.Source.left c.loop-message.link) (g.L.Source.left c.answer_message.new.link)
    (g.L.Sink.written c.args.link.now) (g.L.Sink.written c.loop-message.link) (g.L.Sink.written c.answer_message.new.link) c.loop-message.number rest m _ c.loop-message.invariant.going c.in-Ok.ensures.left is c.if-message.true c.in-Ok.ensures.replied in
    served g.S.Service.answers c.args.service.now c.answer_message.new.service (g.L.Source.left c.args.link.now) (g.L.Source.left c.answer_message.new.link) (g.L.Sink.written c.args.link.now) (g.L.Sink.written c.answer_message.new.link)
    (Rose (g.L.Source.read_faults c.args.link.now) (g.L.Source.read_faults c.answer_message.new.link)) (Rose (g.L.Sink.write_faults c.args.link.now) (g.L.Sink.write_faults c.answer_message.new.link))
    (end_view c.end_after.result) (end_after m.what) c.end_after.ensures all

pub overflow_add-start : goal.overflow_add-start
overflow_add-start g c =
    let m = message_view c.in-Message.message in
    let cut = behind c.loop-message.start c.split_at.result.1.now c.as_slice.result.now c.loop-message.buffer.items c.split_at.ensures.back c.as_slice.ensures.value in
    let is = subst (λ (b : List ℕ). IsNext c.loop-message.number b (Some m)) cut c.in-Message.ensures.next in
    let start_in : c.loop-message.start ≤ length c.loop-message.buffer.items = omega (arith, c.loop-message.invariant.within, c.loop-message.buffer.ok) in
    let lies = message-within c.loop-message.number c.loop-message.start c.loop-message.buffer.items m is start_in in
    omega (arith, lies, c.loop-message.invariant.small, c.loop-message.buffer.ok)

pub loop-message-smaller-in-Message : goal.loop-message-smaller-in-Message
loop-message-smaller-in-Message g c =
    let m = message_view c.in-Message.message in
    let cut = behind c.loop-message.start c.split_at.result.1.now c.as_slice.result.now c.loop-message.buffer.items c.split_at.ensures.back c.as_slice.ensures.value in
    let is = subst (λ (b : List ℕ). IsNext c.loop-message.number b (Some m)) cut c.in-Message.ensures.next in
    let few = few-more c.loop-message.number (drop c.loop-message.start c.loop-message.buffer.items) m is c.if-message.false c.loop-message.invariant.few in
    smaller c.loop-message.number (vec_len c.loop-message.buffer) c.loop-message.start (c.loop-message.start + c.in-Message.message.size) few

pub loop-message-preserved-in-Message : goal.loop-message-preserved-in-Message
loop-message-preserved-in-Message g c =
    let items = c.loop-message.buffer.items in
    let rest = drop c.loop-message.start items in
    let m = message_view c.in-Message.message in
    let cut = behind c.loop-message.start c.split_at.result.1.now c.as_slice.result.now c.loop-message.buffer.items c.split_at.ensures.back c.as_slice.ensures.value in
    let is = subst (λ (b : List ℕ). IsNext c.loop-message.number b (Some m)) cut c.in-Message.ensures.next in
    let start_in : c.loop-message.start ≤ length items = omega (arith, c.loop-message.invariant.within, c.loop-message.buffer.ok) in
    let lies = message-within c.loop-message.number c.loop-message.start items m is start_in in
    let few = few-more c.loop-message.number rest m is c.if-message.false c.loop-message.invariant.few in
    record {
      going = on-answered g.S.Service.answers c.args.service.now c.loop-message.service c.answer_message.new.service (g.L.Source.left c.args.link.now) (g.L.Source.left c.loop-message.link) (g.L.Source.left c.answer_message.new.link)
          (g.L.Sink.written c.args.link.now) (g.L.Sink.written c.loop-message.link) (g.L.Sink.written c.answer_message.new.link) c.loop-message.number rest (drop (c.loop-message.start + c.in-Message.message.size) items) m _
          c.loop-message.invariant.going c.in-Ok.ensures.left is c.if-message.false c.in-Ok.ensures.replied (drop-more c.loop-message.start c.in-Message.message.size items);
      reads = omega (arith, c.loop-message.invariant.reads, c.in-Ok.ensures.reads);
      writes = omega (arith, c.loop-message.invariant.writes, c.in-Ok.ensures.cause.later);
      few = few;
      small = c.loop-message.invariant.small;
      within = omega (arith, lies, c.loop-message.buffer.ok);
    }

pub loop-message-preserved : goal.loop-message-preserved
loop-message-preserved g c = record {
  going = on-read g.S.Service.answers c.args.service.now c.loop-message.service (g.L.Source.left c.args.link.now) (g.L.Source.left c.loop-message.link) (g.L.Source.left c.fill_behind.new.link)
      (g.L.Sink.written c.args.link.now) (g.L.Sink.written c.loop-message.link) (g.L.Sink.written c.fill_behind.new.link) c.loop-message.number (drop c.loop-message.start c.loop-message.buffer.items) c.fill_behind.new.buffer.items
      c.loop-message.invariant.going c.in-Enough.ensures.fills.0 c.in-Enough.ensures.written;
  reads = omega (arith, c.loop-message.invariant.reads, c.in-Enough.ensures.later);
  writes = omega (arith, c.loop-message.invariant.writes, c.in-Enough.ensures.write_faults);
  few = c.loop-message.invariant.few;
  small = c.in-Enough.ensures.fits;
  within = omega arith;
}

pub returns-in-End : goal.returns-in-End
returns-in-End g c =
    let rest = drop c.loop-message.start c.loop-message.buffer.items in
    let bytes = c.fill_behind.new.buffer.items in
    let cut = behind c.loop-message.start c.split_at.result.1.now c.as_slice.result.now c.loop-message.buffer.items c.split_at.ensures.back c.as_slice.ensures.value in
    let waits = subst (λ (b : List ℕ). WaitsFor c.loop-message.number b c.in-Wants.wanted) cut c.in-Wants.ensures.next in
    let fills = c.in-End.ensures.fills in
    let all = read-out g.S.Service.answers c.args.service.now c.loop-message.service (g.L.Source.left c.args.link.now) (g.L.Source.left c.loop-message.link) (g.L.Source.left c.fill_behind.new.link)
    (g.L.Sink.written c.args.link.now) (g.L.Sink.written c.loop-message.link) (g.L.Sink.written c.fill_behind.new.link) c.loop-message.number c.in-Wants.wanted rest bytes
    c.loop-message.invariant.going waits fills.0 fills.1 c.in-End.ensures.written fills.2 in
    let told = inside (end_view c.end_inside.result) c.deref.result.now bytes c.end_inside.ensures c.deref.ensures.value in
    served g.S.Service.answers c.args.service.now c.loop-message.service (g.L.Source.left c.args.link.now) (g.L.Source.left c.fill_behind.new.link) (g.L.Sink.written c.args.link.now) (g.L.Sink.written c.fill_behind.new.link)
    (Rose (g.L.Source.read_faults c.args.link.now) (g.L.Source.read_faults c.fill_behind.new.link)) (Rose (g.L.Sink.write_faults c.args.link.now) (g.L.Sink.write_faults c.fill_behind.new.link))
    (end_view c.end_inside.result) (end_of_rest (blank_len bytes) (length bytes)) told all

pub returns-in-ReadFault : goal.returns-in-ReadFault
returns-in-ReadFault g c =
    let rest = drop c.loop-message.start c.loop-message.buffer.items in
    let bytes = c.fill_behind.new.buffer.items in
    let cut = behind c.loop-message.start c.split_at.result.1.now c.as_slice.result.now c.loop-message.buffer.items c.split_at.ensures.back c.as_slice.ensures.value in
    let waits = subst (λ (b : List ℕ). WaitsFor c.loop-message.number b c.in-Wants.wanted) cut c.in-Wants.ensures.next in
    let fills = c.in-ReadFault.ensures.fills in
    let all = read-whole g.S.Service.answers c.args.service.now c.loop-message.service (g.L.Source.left c.args.link.now) (g.L.Source.left c.loop-message.link) (g.L.Source.left c.fill_behind.new.link)
    (g.L.Sink.written c.args.link.now) (g.L.Sink.written c.loop-message.link) (g.L.Sink.written c.fill_behind.new.link) c.loop-message.number c.in-Wants.wanted rest bytes
    c.loop-message.invariant.going waits fills.0 fills.1 c.in-ReadFault.ensures.written in
    ((end_of_rest (blank_len bytes) (length bytes), all), rose-before _ _ _ c.loop-message.invariant.reads fills.2)

pub returns-in-OutOfMemory : goal.returns-in-OutOfMemory
returns-in-OutOfMemory g c =
    let fills = c.in-OutOfMemory.ensures.fills in
    inr (read-lost g.S.Service.answers c.args.service.now c.loop-message.service (g.L.Source.left c.args.link.now) (g.L.Source.left c.loop-message.link) (g.L.Source.left c.fill_behind.new.link)
    (g.L.Sink.written c.args.link.now) (g.L.Sink.written c.loop-message.link) (g.L.Sink.written c.fill_behind.new.link) c.loop-message.number (drop c.loop-message.start c.loop-message.buffer.items) fills.0
    c.loop-message.invariant.going fills.1 c.in-OutOfMemory.ensures.written)
