-- The kind that the router gives a path is that of its route.
use Rattle.std.proofs.Common.{◌≡◌, ◌≢◌, ◌⊎◌, inl, inr, ℕ, suc, ◌+◌, Bool, true, false, not, ◌&&◌, ◌==◌, cond, ltb, List, [], ◌∷◌, ◌++◌, length, drop, codes, Option, Some, None, option_map, sym as flip, ◌∙◌, ap, subst, refl, arith, nat_eq}
use Rattle.std.specs.Prelude.{nat_lt, nat_le, slice_index}
use Rattle.std.specs.List.{starts_with, before_first, after_first, position_or_len}
use Rattle.std.specs.Char.{is_ascii_digit}
use Rattle.std.specs.Str.{all_ascii_digits, bytes_eq}
use Rattle.std.specs.Str.Parse.{digits_value}
use Rattle.std.proofs.lemmas.Slice.Eq.{starts_is, bytes_eq-Decides}
use Rattle.std.proofs.lemmas.Bool.Decides.{nat_tests, Decides-eqb}
use Rattle.std.specs.Bool.{Decides}
use Rattle.std.proofs.lemmas.List.{append-nil}
use Rattle.std.proofs.Math.Seq.{drop-append_seam}
use Rattle.matchit.specs.Seek.{has_slash, segment, or_else}
use Rattle.pg_messages.specs.Paths as paths
use Rattle.pg_messages.specs.Paths.{is_digits, number_to, level_path}
use Rattle.pg_paths.specs.declared.routing.Kind.{Kind}
use Rattle.pg_paths.specs.declared.routing.Kind.TheVariants.{Game, Me, Level, Transcript, Certificate, Try, Submit}
use Rattle.pg_paths.specs.Plain.{after, ends, one_part, two_parts, is_part, kind_of_path}

-- ---- no number where there is no part

and-false : (v : Bool) → (v && false) ≡ false
and-false true = refl
and-false false = refl

slash-digits : (t : List ℕ) → has_slash t ≡ true → all_ascii_digits t ≡ false
slash-digits [] h = cc
slash-digits (b ∷ t) h =
    (elim (b == 47) as (λ v. (b == 47) ≡ v → cond v true (has_slash t) ≡ true → all_ascii_digits (b ∷ t) ≡ false) [
      | true ↦ λ e k. let is : b ≡ 47 = grind (arith, nat_tests, e) in rw is refl
      | false ↦ λ e k. rw (slash-digits t k) (and-false (is_ascii_digit b))
    ]) refl h

no-digits : (top : ℕ) (t : List ℕ) → all_ascii_digits t ≡ false → number_to top t ≡ None
no-digits top t e = rw e (elim (nat_lt 0 (length t)) as (λ v. cond ((v && false) && not (slice_index t 0 == 48) && nat_le (digits_value 10 t) top) (Some (digits_value 10 t)) None ≡ None) [ true ↦ refl | false ↦ refl ])

no-part : (top : ℕ) (t : List ℕ) → is_part t ≡ false → number_to top t ≡ None
no-part top [] h = refl
no-part top (b ∷ t) h =
    (elim (has_slash (b ∷ t)) as (λ v. has_slash (b ∷ t) ≡ v → not v ≡ false → number_to top (b ∷ t) ≡ None) [
      | true ↦ λ e k. no-digits top (b ∷ t) (slash-digits (b ∷ t) e)
      | false ↦ λ e k. let bad : ⊥ = cc in absurd bad
    ]) refl (more (length t) (not (has_slash (b ∷ t))) h)
  where
    more : (n : ℕ) (v : Bool) → (ltb 0 (suc n) && v) ≡ false → v ≡ false
    more n v e = let one : ltb 0 (suc n) ≡ true = grind (arith, nat_tests) in rw one at e

-- ---- a level's path that is not of two parts

slash-path : (t : List ℕ) → has_slash t ≡ false → after_first (λ b. b == 47) t ≡ []
slash-path [] h = refl
slash-path (b ∷ t) h =
    (elim (b == 47) as (λ v. (b == 47) ≡ v → cond v true (has_slash t) ≡ false → after_first (λ c. c == 47) (b ∷ t) ≡ []) [
      | true ↦ λ e k. let bad : ⊥ = cc in absurd bad
      | false ↦ λ e k.
          let n = position_or_len (λ c. c == 47) t in
          let next : 1 + n + 1 ≡ suc (n + 1) = omega arith in
          rw (e, next) (slash-path t k)
    ]) refl h

-- the first part and what stands behind the slash, by the two words for them
record Parted (t : List ℕ) : Type 0 where
  size : length (segment t) ≡ length (before_first (λ b. b == 47) t) + 1
  behind : drop (length (segment t)) t ≡ after_first (λ b. b == 47) t

parted : (t : List ℕ) → has_slash t ≡ true → Parted t
parted [] h = cc
parted (b ∷ t) h =
    (elim (b == 47) as (λ v. (b == 47) ≡ v → cond v true (has_slash t) ≡ true → Parted (b ∷ t)) [
      | true ↦ λ e k. record { size = rw e refl; behind = rw e refl }
      | false ↦ λ e k.
          let later = parted t k in
          let n = position_or_len (λ c. c == 47) t in
          let one : 1 + n ≡ suc n = omega arith in
          let next : suc n + 1 ≡ suc (n + 1) = omega arith in
          record { size = rw (e, one) (omega (arith, later.size)); behind = rw (e, one, next) later.behind }
    ]) refl h

no-number : (w : List ℕ) (o : Option ℕ) (v : Bool) → o ≡ None → cond v (option_map (paths.level w) o) None ≡ None
no-number w o true e = rw e refl
no-number w o false e = refl

no-level : (t : List ℕ) → two_parts Level t ≡ None → level_path t ≡ None
no-level t h =
    let world = before_first (λ b. b == 47) t in
    (elim (has_slash t) as (λ v. has_slash t ≡ v → cond (v && ltb 1 (length (segment t))) (one_part Level (drop (length (segment t)) t)) None ≡ None → level_path t ≡ None) [
      | false ↦ λ e k. no-number world (number_to 64 (after_first (λ b. b == 47) t)) (nat_lt 0 (length world)) (ap (number_to 64) (slash-path t e))
      | true ↦ λ e k.
          let by = parted t e in
          (elim (ltb 1 (length (segment t))) as (λ v. ltb 1 (length (segment t)) ≡ v → cond v (one_part Level (drop (length (segment t)) t)) None ≡ None → level_path t ≡ None) [
            | false ↦ λ f l.
                let none : nat_lt 0 (length world) ≡ false = grind (arith, nat_tests, f, by.size) in
                rw none refl
            | true ↦ λ f l.
                no-number world (number_to 64 (after_first (λ b. b == 47) t)) (nat_lt 0 (length world))
                (ap (number_to 64) (flip by.behind) ∙ no-part 64 (drop (length (segment t)) t) (not-part (is_part (drop (length (segment t)) t)) l))
          ]) refl k
    ]) refl h
  where
    not-part : (v : Bool) → cond v (Some Level) None ≡ None → v ≡ false
    not-part true k = cc
    not-part false k = refl

-- ---- fronts

front : (w p : List ℕ) → ((rest : List ℕ) × (p ≡ w ++ rest)) ⊎ (starts_with nat_eq p w ≡ false)
front w p =
    let is = starts_is {E = nat_eq} Decides-eqb p w (starts_with nat_eq p w) refl in
    (elim (starts_with nat_eq p w) as (λ v. starts_with nat_eq p w ≡ v → ((rest : List ℕ) × (p ≡ w ++ rest)) ⊎ (v ≡ false)) [
      | true ↦ λ e. inl (drop (length w) p, is.0 e)
      | false ↦ λ e. inr refl
    ]) refl

word : (w p : List ℕ) → (p ≡ w) ⊎ ((bytes_eq p w ≡ false) × (p ≢ w))
word w p =
    let is = bytes_eq-Decides p w in
    (elim (bytes_eq p w) as (λ v. Decides v (p ≡ w) → (p ≡ w) ⊎ ((v ≡ false) × (p ≢ w))) [
      | true ↦ λ d. inl (d.0 refl)
      | false ↦ λ d. inr (refl, λ e. apart (d.1 e))
    ]) is
  where
    apart : false ≡ true → ⊥
    apart e = cc

ends-none : (k : Kind) (w q : List ℕ) → q ≢ w → after w (ends k) q ≡ None
ends-none k w q other =
    elim (front w q) [
      | inl f ↦ at f.0 f.1
      | inr e ↦ rw e refl
    ]
  where
    at : (rest : List ℕ) → q ≡ w ++ rest → after w (ends k) q ≡ None
    at [] e = absurd (other (e ∙ append-nil w))
    at (x ∷ rest) e =
        let back : drop (length w) q ≡ x ∷ rest = ap (drop (length w)) e ∙ drop-append_seam w (x ∷ rest) in
        rw back (elim (starts_with nat_eq q w) as (λ v. cond {A = Option Kind} v None None ≡ None) [ true ↦ refl | false ↦ refl ])

-- ---- what the kind of a path says

abbrev pub Routed : List ℕ → Option Kind → Type 0
Routed p None = paths.route_of p ≡ None
Routed p (Some Game) = p ≡ codes "/game"
Routed p (Some Me) = p ≡ codes "/me"
Routed p (Some Try) = p ≡ codes "/try"
Routed p (Some Submit) = p ≡ codes "/submit"
Routed p (Some Level) = (rest : List ℕ) × (p ≡ codes "/level/" ++ rest)
Routed p (Some Transcript) = (rest : List ℕ) × (p ≡ codes "/transcript/" ++ rest)
Routed p (Some Certificate) = (rest : List ℕ) × (p ≡ codes "/certificate/" ++ rest)

pub level-route : (t : List ℕ) → paths.route_of (codes "/level/" ++ t) ≡ level_path t
unfolding paths.route_of
level-route t = refl

pub transcript-route : (t : List ℕ) → paths.route_of (codes "/transcript/" ++ t) ≡ option_map paths.transcript (number_to 4294967295 t)
unfolding paths.route_of
transcript-route t = refl

pub certificate-route : (t : List ℕ) → paths.route_of (codes "/certificate/" ++ t) ≡ option_map paths.certificate (number_to 4294967295 t)
unfolding paths.route_of
certificate-route t = refl

pub words-route : (paths.route_of (codes "/game") ≡ Some paths.game) × (paths.route_of (codes "/me") ≡ Some paths.me)
    × (paths.route_of (codes "/try") ≡ Some paths.try_script) × (paths.route_of (codes "/submit") ≡ Some paths.submit)
unfolding paths.route_of
words-route = (refl, refl, refl, refl)

level-routed : (t : List ℕ) → Routed (codes "/level/" ++ t) (kind_of_path (codes "/level/" ++ t))
level-routed t =
    (elim (two_parts Level t) as (λ o. two_parts Level t ≡ o → Routed (codes "/level/" ++ t) (or_else o None)) [
      | None ↦ λ e. level-route t ∙ no-level t e
      | Some k ↦ λ e. at k (is-level (has_slash t && ltb 1 (length (segment t))) (is_part (drop (length (segment t)) t)) k e)
    ]) refl
  where
    is-level : (a b : Bool) (k : Kind) → cond a (cond b (Some Level) None) None ≡ Some k → k ≡ Level
    is-level true true k e = cc
    is-level true false k e = cc
    is-level false b k e = cc

    at : (k : Kind) → k ≡ Level → Routed (codes "/level/" ++ t) (Some k)
    at k e = subst (λ x. Routed (codes "/level/" ++ t) (Some x)) (flip e) (t, refl)

transcript-routed : (t : List ℕ) → Routed (codes "/transcript/" ++ t) (kind_of_path (codes "/transcript/" ++ t))
transcript-routed t =
    (elim (is_part t) as (λ v. is_part t ≡ v → Routed (codes "/transcript/" ++ t) (or_else (cond v (Some Transcript) None) None)) [
      | true ↦ λ e. (t, refl)
      | false ↦ λ e. transcript-route t ∙ ap (option_map paths.transcript) (no-part 4294967295 t e)
    ]) refl

certificate-routed : (t : List ℕ) → Routed (codes "/certificate/" ++ t) (kind_of_path (codes "/certificate/" ++ t))
certificate-routed t =
    (elim (is_part t) as (λ v. is_part t ≡ v → Routed (codes "/certificate/" ++ t) (or_else (cond v (Some Certificate) None) None)) [
      | true ↦ λ e. (t, refl)
      | false ↦ λ e. certificate-route t ∙ ap (option_map paths.certificate) (no-part 4294967295 t e)
    ]) refl

-- no path of a route
record Strange (p : List ℕ) : Type 0 where
  no_game : (bytes_eq p (codes "/game") ≡ false) × (p ≢ codes "/game")
  no_me : (bytes_eq p (codes "/me") ≡ false) × (p ≢ codes "/me")
  no_try : (bytes_eq p (codes "/try") ≡ false) × (p ≢ codes "/try")
  no_submit : (bytes_eq p (codes "/submit") ≡ false) × (p ≢ codes "/submit")
  no_level : starts_with nat_eq p (codes "/level/") ≡ false
  no_transcript : starts_with nat_eq p (codes "/transcript/") ≡ false
  no_certificate : starts_with nat_eq p (codes "/certificate/") ≡ false

strange-route : (p : List ℕ) → Strange p → paths.route_of p ≡ None
unfolding paths.route_of
strange-route p s = rw (s.no_game.0, s.no_me.0, s.no_try.0, s.no_submit.0, s.no_level, s.no_transcript, s.no_certificate) refl

after-none : (w q : List ℕ) (go : List ℕ → Option Kind) → starts_with nat_eq q w ≡ false → after w go q ≡ None
after-none w q go e = rw e refl

strange-behind : (q : List ℕ) → Strange (47 ∷ q) → kind_of_path (47 ∷ q) ≡ None
strange-behind q s =
    let other : (w : List ℕ) → (47 ∷ q) ≢ (47 ∷ w) → q ≢ w = λ w ne e. ne (ap (λ x. 47 ∷ x) e) in
    let certificate = after-none (codes "certificate/") q (one_part Certificate) s.no_certificate in
    let level = after-none (codes "level/") q (two_parts Level) s.no_level in
    let transcript = after-none (codes "transcript/") q (one_part Transcript) s.no_transcript in
    let game_ = ends-none Game (codes "game") q (other (codes "game") s.no_game.1) in
    let me_ = ends-none Me (codes "me") q (other (codes "me") s.no_me.1) in
    let submit_ = ends-none Submit (codes "submit") q (other (codes "submit") s.no_submit.1) in
    let try_ = ends-none Try (codes "try") q (other (codes "try") s.no_try.1) in
    rw (certificate, game_, level, me_, submit_, transcript, try_) refl

strange-kind : (p : List ℕ) → Strange p → kind_of_path p ≡ None
strange-kind [] s = refl
strange-kind (x ∷ q) s =
    (elim (nat_eq 47 x) as (λ v. nat_eq 47 x ≡ v → kind_of_path (x ∷ q) ≡ None) [
      | true ↦ λ e. let is : 47 ≡ x = grind (arith, nat_tests, e) in at x is s
      | false ↦ λ e. rw e refl
    ]) refl
  where
    at : (y : ℕ) → 47 ≡ y → Strange (y ∷ q) → kind_of_path (y ∷ q) ≡ None
    at y e s = subst (λ z. Strange (z ∷ q) → kind_of_path (z ∷ q) ≡ None) e (strange-behind q) s

pub routed : (p : List ℕ) → Routed p (kind_of_path p)
routed p =
    elim (word (codes "/game") p) [
      | inl e ↦ subst (λ x. Routed x (kind_of_path x)) (flip e) refl
      | inr game_ ↦ elim (word (codes "/me") p) [
        | inl e ↦ subst (λ x. Routed x (kind_of_path x)) (flip e) refl
        | inr me_ ↦ elim (word (codes "/try") p) [
          | inl e ↦ subst (λ x. Routed x (kind_of_path x)) (flip e) refl
          | inr try_ ↦ elim (word (codes "/submit") p) [
            | inl e ↦ subst (λ x. Routed x (kind_of_path x)) (flip e) refl
            | inr submit_ ↦ elim (front (codes "/level/") p) [
              | inl f ↦ subst (λ x. Routed x (kind_of_path x)) (flip f.1) (level-routed f.0)
              | inr level_ ↦ elim (front (codes "/transcript/") p) [
                | inl f ↦ subst (λ x. Routed x (kind_of_path x)) (flip f.1) (transcript-routed f.0)
                | inr transcript_ ↦ elim (front (codes "/certificate/") p) [
                  | inl f ↦ subst (λ x. Routed x (kind_of_path x)) (flip f.1) (certificate-routed f.0)
                  | inr certificate_ ↦
                      let s : Strange p = record { no_game = game_; no_me = me_; no_try = try_; no_submit = submit_; no_level = level_; no_transcript = transcript_; no_certificate = certificate_ } in
                      subst (Routed p) (flip (strange-kind p s)) (strange-route p s)
                ]
              ]
            ]
          ]
        ]
      ]
    ]

pub routed-by : (p : List ℕ) (o : Option Kind) (k : Option Kind) → o ≡ kind_of_path p → o ≡ k → Routed p k
routed-by p o k e f = subst (Routed p) (flip e ∙ f) (routed p)
