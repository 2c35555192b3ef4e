-- The faults of the names of a command are those of each behind the others.
use Rattle.std.proofs.Common.{◌≡◌, ◌∙◌, Bool, true, false, List, [], ◌∷◌, ◌++◌, Option, None, Some, if◌then◌else◌, refl, ap, sym, append_assoc}
use Rattle.std.proofs.lemmas.List.{append-nil}
use Rattle.pg_faults.specs.View.{sooner}
use Rattle.pg_faults.proofs.Least.{least-law}
use Rattle.pg_gametext.specs.Faults.{Fault, least}
use Rattle.pg_gametext.specs.Before.{Given, first_place}
use Rattle.pg_gametext.specs.Checks.{given_faults, clash_fault}
use Rattle.pg_named.specs.declared.given.Given.{Given as Entry}
use Rattle.pg_named.specs.View.{given, maybe_given}
use Rattle.pg_named.specs.Own.{own_clash}

sooner_none : (o : Option Fault) → sooner o None ≡ o
sooner_none None = refl
sooner_none (Some f) = refl

-- the first of a command's names
front : (G B : List Given) (a : Option Entry) (gs : List Given)
    → least (given_faults G B (maybe_given a ++ gs)) ≡ sooner (least (own_clash G B [] (maybe_given a))) (least (given_faults (maybe_given a ++ G) B gs))
front G B None gs = refl
front G B (Some g) gs = least-law (own_clash G B [] (maybe_given (Some g))) (given_faults (given g ∷ G) B gs)

last : (G B : List Given) (a : Option Entry) → least (given_faults G B (maybe_given a)) ≡ least (own_clash G B [] (maybe_given a))
last G B None = refl
last G B (Some g) = least-law (own_clash G B [] (maybe_given (Some g))) [] ∙ sooner_none (least (own_clash G B [] (maybe_given (Some g))))

-- a name of the command that stands nearer than all before
moved : (G B : List Given) (g : Given) (own : List Given) (declared : Bool) → own ++ (if declared then (g ∷ G) ++ B else g ∷ G) ≡ (own ++ g ∷ []) ++ (if declared then G ++ B else G)
moved G B g own true = sym (append_assoc own (g ∷ []) (G ++ B))
moved G B g own false = sym (append_assoc own (g ∷ []) G)

nearer : (G B own : List Given) (a c : Option Entry) → own_clash (maybe_given a ++ G) B own (maybe_given c) ≡ own_clash G B (own ++ maybe_given a) (maybe_given c)
nearer G B own a None = refl
nearer G B own None (Some c) = ap (λ o. own_clash G B o (maybe_given (Some c))) (sym (append-nil own))
nearer G B own (Some a) (Some c) = ap (λ zs. clash_fault c.at (first_place (given c).name zs)) (moved G B (given a) own c.declared)

pub all : (G B : List Given) (a b c : Option Entry)
    → least (given_faults G B (maybe_given a ++ (maybe_given b ++ maybe_given c)))
    ≡ sooner (least (own_clash G B [] (maybe_given a))) (sooner (least (own_clash G B (maybe_given a) (maybe_given b))) (least (own_clash G B (maybe_given b ++ maybe_given a) (maybe_given c))))
all G B a b c =
    let A = maybe_given a in
    let two = maybe_given b ++ (A ++ G) in
    front G B a (maybe_given b ++ maybe_given c)
    ∙ ap (sooner (least (own_clash G B [] A)))
    (front (A ++ G) B b (maybe_given c)
    ∙ ap (λ o. sooner o (least (given_faults two B (maybe_given c)))) (ap least (nearer G B [] a b))
    ∙ ap (sooner (least (own_clash G B A (maybe_given b))))
    (last two B c ∙ ap least (nearer (A ++ G) B [] b c ∙ nearer G B (maybe_given b) a c)))

-- the same of what was found of each
pub all_found : (G B : List Given) (a b c : Option Entry) (found behind first second third : Option Fault)
    → found ≡ sooner first behind → behind ≡ sooner second third
    → first ≡ least (own_clash G B [] (maybe_given a)) → second ≡ least (own_clash G B (maybe_given a ++ []) (maybe_given b)) → third ≡ least (own_clash G B (maybe_given b ++ maybe_given a) (maybe_given c))
    → found ≡ least (given_faults G B (maybe_given a ++ (maybe_given b ++ maybe_given c)))
all_found G B a b c found behind first second third is more one two three =
    is ∙ ap (sooner first) more
    ∙ ap (λ o. sooner o (sooner second third)) one
    ∙ ap (sooner (least (own_clash G B [] (maybe_given a))))
    (ap (λ o. sooner o third) (two ∙ ap (λ own. least (own_clash G B own (maybe_given b))) (append-nil (maybe_given a)))
    ∙ ap (sooner (least (own_clash G B (maybe_given a) (maybe_given b)))) three)
    ∙ sym (all G B a b c)
