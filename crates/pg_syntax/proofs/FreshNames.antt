-- Names made fresh are free.
use Rattle.std.proofs.Common.{◌≡◌, ◌+◌, ◌<◌, ◌^◌, ◌||◌, true, cond, List, [], ◌++◌, length, reverse, ap, ◌∙◌, sym, subst}
use Rattle.std.specs.List.{list_any}
use Rattle.std.specs.Str.{bytes_eq}
use Rattle.std.proofs.lemmas.List.Folds.{list_any-append}
use Rattle.pg_logic.specs.Declarations.{Name}
use Rattle.pg_base.specs.Reserved.{is_reserved}
use Rattle.pg_spelling.specs.Fresh.{is_taken, stem, numbered, free_number, fresh, IsNumbered, IsFresh}
use Rattle.pg_spelling.proofs.Fresh.{fresh-law}
use Rattle.pg_syntax.proofs.Lists.{any-reverse}

-- what is made fresh among fewer than 2^64 names
fresh_numbered : (names : List Name) (name made : Name) → length names + 1 < 2 ^ 64 → made ≡ fresh names name → IsFresh names name made
fresh_numbered names name made room e = subst (IsFresh names name) (sym e) (fresh-law names name room)

pub fresh_by_number : (names : List Name) (name made front : Name) → length names + 1 < 2 ^ 64 → is_taken names name ≡ true → front ≡ stem name
    → made ≡ numbered front (free_number names front (length names) 1) → IsFresh names name made
fresh_by_number names name made front room taken is e =
    fresh_numbered names name made room
    (e ∙ ap (λ f. numbered f (free_number names f (length names) 1)) is ∙ sym (ap (λ b. cond b (numbered (stem name) (free_number names (stem name) (length names) 1)) name) taken))

numbered_alike : (names others : List Name) (front made : Name) → ((x : Name) → is_taken names x ≡ is_taken others x) → IsNumbered names front made → IsNumbered others front made
numbered_alike names others front made same n =
    record { number = n.number; is = n.is; some = n.some; least = λ k a b. sym (same (numbered front k)) ∙ n.least k a b }

fresh_alike : (names others : List Name) (name made : Name) → ((x : Name) → is_taken names x ≡ is_taken others x) → IsFresh names name made → IsFresh others name made
fresh_alike names others name made same f =
    record {
      free = sym (same made) ∙ f.free;
      stays = λ h. f.stays (same name ∙ h);
      numbered = λ h. numbered_alike names others (stem name) made same (f.numbered (same name ∙ h));
    }

-- names in another order, and no variables
pub fresh_turned : (names declared : List Name) (name made : Name) → IsFresh (reverse names ++ ([] ++ declared)) name made → IsFresh (names ++ declared) name made
fresh_turned names declared name made f =
    fresh_alike (reverse names ++ declared) (names ++ declared) name made
    (λ x. ap (λ o. o || is_reserved x) (list_any-append (bytes_eq x) (reverse names) declared ∙ ap (λ o. o || list_any (bytes_eq x) declared) (any-reverse (bytes_eq x) names) ∙ sym (list_any-append (bytes_eq x) names declared)))
    f
