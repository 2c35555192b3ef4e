-- How deep binders nest.
use Rattle.std.specs.Prelude.{ℕ, ◌+◌, max}
use Rattle.pg_logic.specs.Tree.{Fm, and, or, imp, all, ex}

-- the most binders that stand over one another
abbrev pub binder_depth : Fm → ℕ
binder_depth (and a b) = max (binder_depth a) (binder_depth b)
binder_depth (or a b) = max (binder_depth a) (binder_depth b)
binder_depth (imp a b) = max (binder_depth a) (binder_depth b)
binder_depth (all x a) = binder_depth a + 1
binder_depth (ex x a) = binder_depth a + 1
binder_depth a = 0
