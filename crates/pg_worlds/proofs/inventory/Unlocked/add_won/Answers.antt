use Rattle.std.proofs.Common.{◌∙◌, ◌<◌, ◌≤◌, ◌||◌, ℕ, sym, ap, arith, vec_len}
use Rattle.std.specs.Prelude.{◌==◌}
use Rattle.pg_worlds.specs.Flags.{flag, has}
use Rattle.pg_worlds.specs.Moves.{place_of}
use Rattle.pg_worlds.specs.Course.{level_at}
use Rattle.pg_worlds.specs.View.{level_of}
use Rattle.pg_worlds.specs.Inventory.{inventory, joined, unlocked_by, has_move}
use Rattle.pg_worlds.proofs.Places.{places_below}
use Rattle.pg_worlds.proofs.Won.{same_inventory, won_more, own_last}
use Rattle.pg_worlds.proofs.inventory.Unlocked.add_won.Goals as goal

pub insert_all-requires : goal.insert_all-requires
insert_all-requires c = λ k e.
    let h : k < vec_len c.make_room.new.flags = c.in_ok-make_room.ensures.room k (ap (λ xs. has xs k) (c.as_slice.ensures ∙ sym c.as_slice-3.ensures) ∙ e) in
    let l : vec_len c.make_room.new.flags ≤ vec_len c.insert_growing.new.flags = c.insert_growing.ensures.longer in
    omega arith

pub add_all-requires : goal.add_all-requires
add_all-requires c = λ k e. let l : k < 16 = places_below c.as_slice-4.result.now k e in omega arith

pub returns-clause-ok : goal.returns-clause-ok
returns-clause-ok c =
    let old = c.self.inside in
    let item = c.items-item.result.now in
    let grown = λ (k : ℕ). c.in_ok-insert_growing.ensures.ok k ∙ (λ i. c.make_room.ensures.same k i || has (c.as_slice-2.ensures.value i) k) in
    same_inventory _ (joined (inventory (record { tactics = old.tactics; theorems = old.theorems.items })) (unlocked_by (level_of item)))
    (λ t. c.add_all.ensures (place_of t) ∙ ap (λ xs. flag old.tactics (place_of t) || has_move xs t) c.as_slice-4.ensures.value)
    (λ k. c.insert_all.ensures k ∙ (λ i. grown k i || has (c.as_slice-3.ensures i) k) ∙ own_last (flag old.theorems.items k) (item.own == k) (has item.new_theorems.items k))
    ∙ (λ i. joined (inventory (c.self.view_is i)) (unlocked_by (c.items-item.ensures i)))

pub returns-clause-won : goal.returns-clause-won
returns-clause-won c = λ won e same.
    returns-clause-ok c
    ∙ ap (λ a. joined a (unlocked_by (level_at c.args.course.now c.args.level.0))) same
    ∙ won_more c.args.course.now won c.args.level.0 c.requires e
