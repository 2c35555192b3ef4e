-- New names that clash with none.
use Rattle.std.proofs.Common.{◌≡◌, List, [], ◌∷◌, ◌++◌, Bool, true, false, ◌||◌, refl, sym, ◌∙◌}
use Rattle.std.specs.List.{list_any}
use Rattle.std.specs.Str.{bytes_eq}
use Rattle.std.proofs.lemmas.Bool.{or_parts, false≢true}
use Rattle.std.proofs.lemmas.List.Folds.{list_any-append}
use Rattle.std.proofs.lemmas.Slice.Eq.{bytes_eq-Decides}
use Rattle.pg_logic.specs.Declarations.{Name, clash}

or_from : (x y : Bool) → x ≡ false → y ≡ false → (x || y) ≡ false
or_from false y e f = f
or_from true y e f = absurd (false≢true (sym e))

-- two names differ either way round
apart : (x y : Name) → bytes_eq x y ≡ false → bytes_eq y x ≡ false
apart x y e = go (bytes_eq y x) refl
  where
    go : (b : Bool) → bytes_eq y x ≡ b → b ≡ false
    go false f = refl
    go true f = absurd (false≢true (sym e ∙ (bytes_eq-Decides x y).1 (sym ((bytes_eq-Decides y x).0 f))))

-- a name that is in neither part
absent_parts : (x : Name) (xs ys : List Name) → list_any (bytes_eq x) (xs ++ ys) ≡ false → (list_any (bytes_eq x) xs ≡ false) × (list_any (bytes_eq x) ys ≡ false)
absent_parts x xs ys e = or_parts _ _ (sym (list_any-append (bytes_eq x) xs ys) ∙ e)

absent_from : (x : Name) (xs ys : List Name) → list_any (bytes_eq x) xs ≡ false → list_any (bytes_eq x) ys ≡ false → list_any (bytes_eq x) (xs ++ ys) ≡ false
absent_from x xs ys e f = list_any-append (bytes_eq x) xs ys ∙ or_from _ _ e f

-- with one name less that is taken; that name is none of the new ones
clash-fewer : (a : Name) (taken new : List Name) → clash (a ∷ taken) new ≡ false → (clash taken new ≡ false) × (list_any (bytes_eq a) new ≡ false)
clash-fewer a taken [] e = (refl, refl)
clash-fewer a taken (x ∷ more) e =
    let p = or_parts _ _ e in
    let q = absent_parts x more (a ∷ taken) p.0 in
    let r = or_parts (bytes_eq x a) (list_any (bytes_eq x) taken) q.1 in
    let rest = clash-fewer a taken more p.1 in
    (or_from _ _ (absent_from x more taken q.0 r.1) rest.0, or_from _ _ (apart x a r.0) rest.1)

-- the new names before those that are taken
differ-before : (new taken : List Name) → clash [] taken ≡ false → clash taken new ≡ false → clash [] (new ++ taken) ≡ false
differ-before [] taken d e = d
differ-before (x ∷ more) taken d e =
    let p = or_parts _ _ e in
    or_from _ _ (absent_from x (more ++ taken) [] p.0 refl) (differ-before more taken d p.1)

-- and in their middle
pub differ-between : (before new after : List Name) → clash [] (before ++ after) ≡ false → clash (before ++ after) new ≡ false → clash [] (before ++ (new ++ after)) ≡ false
differ-between [] new after d e = differ-before new after d e
differ-between (b ∷ before) new after d e =
    let p = or_parts _ _ d in
    let q = clash-fewer b (before ++ after) new e in
    let r = absent_parts b (before ++ after) [] p.0 in
    let s = absent_parts b before after r.0 in
    or_from _ _ (absent_from b (before ++ (new ++ after)) [] (absent_from b before (new ++ after) s.0 (absent_from b new after q.1 s.1)) refl) (differ-between before new after p.1 q.0)
