-- What is given, taken at terms that fit, fits and is proved, and is the formula with its holes filled.
use Rattle.std.proofs.Common.{◌≡◌, ◌+◌, List, [], ◌∷◌, ◌++◌, length, map, arith, ap, sym, ◌∙◌, append_assoc, length-append}
use Rattle.pg_logic.specs.Tree.{Tm, Fm, falsum, eq, pred, and, or, imp, all, ex, opened_formula}
use Rattle.pg_logic.specs.Signature.{Signature}
use Rattle.pg_logic.specs.Declarations.{Name, signature_of}
use Rattle.pg_logic.specs.Kernel.{Pf, alle}
use Rattle.pg_logic.proofs.Fitting.{fits-opened}
use Rattle.pg_moves.specs.Goals.{Goal}
use Rattle.pg_moves.specs.Instances.{filled_formula}
use Rattle.pg_moves.specs.Lookup.{Lookup, IsAvailable}
use Rattle.pg_moves.specs.Proofs.{hyp_formula}
use Rattle.pg_moves.specs.Stripped.{unbound}
use Rattle.pg_moves.proofs.Filled.{AreClosed, filled_under, filled-all, filled-next, filled-append}
use Rattle.pg_moves.proofs.Moved.{append_nil}
use Rattle.pg_moves.proofs.Rewritten.{closed-append}
use Rattle.pg_moves.proofs.Rules.{by_alle}
use Rattle.pg_goal.specs.Conditions.{IsProved}
use Rattle.pg_rewrites.specs.Taking.{taken_at}
use Rattle.pg_rewrites.proofs.Names.{binders-grow}

module _ (l : Lookup) (g : Goal) where
  abbrev s : Signature
  s = signature_of l.declared

  abbrev C : List Tm → Type 0
  C = AreClosed s.functions (length g.vars)

  pub taken-proved : (ts : List Tm) (a : Fm) (p : Pf) → C ts → IsProved l g a p → let c = taken_at ts a p in IsProved l g c.says c.by
  taken-proved [] a p ct is = is
  taken-proved (t ∷ ts) (all x a) p ct is =
      taken-proved ts (opened_formula t a) (alle a t p) ct.1 (record {
        fitting = fits-opened s (length g.vars) t a ct.0 is.fitting;
        shows = by_alle s l.theorems (IsAvailable l) (length g.vars) (map hyp_formula g.hyps) x a t p is.fitting ct.0 is.shows;
      })
  taken-proved (t ∷ ts) falsum p ct is = is
  taken-proved (t ∷ ts) (eq u v) p ct is = is
  taken-proved (t ∷ ts) (pred q us) p ct is = is
  taken-proved (t ∷ ts) (and a b) p ct is = is
  taken-proved (t ∷ ts) (or a b) p ct is = is
  taken-proved (t ∷ ts) (imp a b) p ct is = is
  taken-proved (t ∷ ts) (ex x a) p ct is = is

  abbrev says_at : List Tm → Fm → Pf → Fm
  says_at ts a p = (taken_at ts a p).says

  stay : (us : List Tm) (xs : List Name) (a : Fm) (p : Pf) (ts : List Tm) → length xs ≡ length xs + length ts → says_at ts (filled_formula us a) p ≡ filled_formula (us ++ ts) a
  stay us xs a p [] e = ap (λ us. filled_formula us a) (sym (append_nil us))
  stay us xs a p (t ∷ ts) e = absurd (omega (arith, e))

  taken-filled-from : (us ts : List Tm) (xs : List Name) (a : Fm) (p : Pf) → C us → C ts → length (unbound xs a).binders ≡ length xs + length ts →
      says_at ts (filled_formula us a) p ≡ filled_formula (us ++ ts) (unbound xs a).rest
  taken-filled-from us [] xs (all x a) p cu ct e = absurd (omega (arith, e, binders-grow (xs ++ x ∷ []) a, length-append xs (x ∷ [])))
  taken-filled-from us (t ∷ ts) xs (all x a) p cu ct e =
      let b = filled_under s.functions (length g.vars) us a in
      let next : opened_formula t b ≡ filled_formula (us ++ t ∷ []) a = filled-next s.functions (length g.vars) us t a cu ct.0 ∙ sym (filled-append s.functions (length g.vars) us (t ∷ []) a) in
      ap (λ c. says_at (t ∷ ts) c p) (filled-all s.functions (length g.vars) us x a)
      ∙ ap (λ c. says_at ts c (alle b t p)) next
      ∙ taken-filled-from (us ++ t ∷ []) ts (xs ++ x ∷ []) a (alle b t p) (closed-append s.functions (length g.vars) us t cu ct.0) ct.1 (omega (arith, e, length-append xs (x ∷ [])))
      ∙ ap (λ us. filled_formula us (unbound (xs ++ x ∷ []) a).rest) (append_assoc us (t ∷ []) ts)
  taken-filled-from us ts xs falsum p cu ct e = stay us xs falsum p ts e
  taken-filled-from us ts xs (eq u v) p cu ct e = stay us xs (eq u v) p ts e
  taken-filled-from us ts xs (pred q vs) p cu ct e = stay us xs (pred q vs) p ts e
  taken-filled-from us ts xs (and a b) p cu ct e = stay us xs (and a b) p ts e
  taken-filled-from us ts xs (or a b) p cu ct e = stay us xs (or a b) p ts e
  taken-filled-from us ts xs (imp a b) p cu ct e = stay us xs (imp a b) p ts e
  taken-filled-from us ts xs (ex x a) p cu ct e = stay us xs (ex x a) p ts e

  -- with a term for each binder, the holes of what is left are filled
  pub taken-filled : (ts : List Tm) (a : Fm) (p : Pf) → C ts → length ts ≡ length (unbound [] a).binders → (taken_at ts a p).says ≡ filled_formula ts (unbound [] a).rest
  taken-filled ts a p ct e = taken-filled-from [] ts [] a p tt ct (omega (arith, e))
