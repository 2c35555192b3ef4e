use Rattle.std.proofs.Common.{◌≡◌, List, ℕ, ◌++◌, codes, Some, None, option_map, sym as flip, ◌∙◌, ap}
use Rattle.pg_messages.specs.Paths as paths
use Rattle.pg_paths.specs.View.{route_view}
use Rattle.pg_paths.specs.declared.routing.Kind.TheVariants.{Game, Me, Level, Transcript, Certificate, Try, Submit}
use Rattle.pg_paths.proofs.Routed.{routed-by, level-route, transcript-route, certificate-route, words-route}
use Rattle.pg_paths.proofs.path.route_of.Goals as goal

pub returns-in_err-kind_of : goal.returns-in_err-kind_of
returns-in_err-kind_of c =
    ap (option_map route_view) c.from_residual.ensures ∙ flip (routed-by c.args.path.now c.kind_of.result None c.kind_of.ensures c.in_err-kind_of.was)

pub returns-in-Game : goal.returns-in-Game
returns-in-Game c =
    let is = routed-by c.args.path.now c.kind_of.result (Some Game) c.kind_of.ensures (c.in_ok-kind_of.was ∙ ap Some c.in-Game.is) in
    flip (ap paths.route_of is ∙ words-route.0)

pub returns-in-Me : goal.returns-in-Me
returns-in-Me c =
    let is = routed-by c.args.path.now c.kind_of.result (Some Me) c.kind_of.ensures (c.in_ok-kind_of.was ∙ ap Some c.in-Me.is) in
    flip (ap paths.route_of is ∙ words-route.1)

pub returns-in-Try : goal.returns-in-Try
returns-in-Try c =
    let is = routed-by c.args.path.now c.kind_of.result (Some Try) c.kind_of.ensures (c.in_ok-kind_of.was ∙ ap Some c.in-Try.is) in
    flip (ap paths.route_of is ∙ words-route.2)

pub returns-in-Submit : goal.returns-in-Submit
returns-in-Submit c =
    let is = routed-by c.args.path.now c.kind_of.result (Some Submit) c.kind_of.ensures (c.in_ok-kind_of.was ∙ ap Some c.in-Submit.is) in
    flip (ap paths.route_of is ∙ words-route.3)

pub returns-in_err-strip_prefix-in-Level : goal.returns-in_err-strip_prefix-in-Level
returns-in_err-strip_prefix-in-Level c =
    let is = routed-by c.args.path.now c.kind_of.result (Some Level) c.kind_of.ensures (c.in_ok-kind_of.was ∙ ap Some c.in-Level.is) in
    absurd (c.in_err-strip_prefix-in-Level.ensures.cases is.0 is.1)

pub returns-in_ok-strip_prefix-in-Level : goal.returns-in_ok-strip_prefix-in-Level
returns-in_ok-strip_prefix-in-Level c =
    let cut = c.in_ok-strip_prefix-in-Level.ensures.cases in
    let whole : c.args.path.now ≡ codes "/level/" ++ c.in_ok-strip_prefix-in-Level.field-0.now = cut.1.1 ∙ ap (λ (t : List ℕ). codes "/level/" ++ t) (flip cut.2) in
    c.level_of.ensures ∙ flip (ap paths.route_of whole ∙ level-route c.in_ok-strip_prefix-in-Level.field-0.now)

pub returns-in_err-strip_prefix-in-Transcript : goal.returns-in_err-strip_prefix-in-Transcript
returns-in_err-strip_prefix-in-Transcript c =
    let is = routed-by c.args.path.now c.kind_of.result (Some Transcript) c.kind_of.ensures (c.in_ok-kind_of.was ∙ ap Some c.in-Transcript.is) in
    absurd (c.in_err-strip_prefix-in-Transcript.ensures.cases is.0 is.1)

pub returns-in_ok-strip_prefix-in-Transcript : goal.returns-in_ok-strip_prefix-in-Transcript
returns-in_ok-strip_prefix-in-Transcript c =
    let cut = c.in_ok-strip_prefix-in-Transcript.ensures.cases in
    let whole : c.args.path.now ≡ codes "/transcript/" ++ c.in_ok-strip_prefix-in-Transcript.field-0.now = cut.1.1 ∙ ap (λ (t : List ℕ). codes "/transcript/" ++ t) (flip cut.2) in
    c.transcript_of.ensures ∙ flip (ap paths.route_of whole ∙ transcript-route c.in_ok-strip_prefix-in-Transcript.field-0.now)

pub returns-in_err-strip_prefix-in-Certificate : goal.returns-in_err-strip_prefix-in-Certificate
returns-in_err-strip_prefix-in-Certificate c =
    let is = routed-by c.args.path.now c.kind_of.result (Some Certificate) c.kind_of.ensures (c.in_ok-kind_of.was ∙ ap Some c.in-Certificate.is) in
    absurd (c.in_err-strip_prefix-in-Certificate.ensures.cases is.0 is.1)

pub returns-in_ok-strip_prefix-in-Certificate : goal.returns-in_ok-strip_prefix-in-Certificate
returns-in_ok-strip_prefix-in-Certificate c =
    let cut = c.in_ok-strip_prefix-in-Certificate.ensures.cases in
    let whole : c.args.path.now ≡ codes "/certificate/" ++ c.in_ok-strip_prefix-in-Certificate.field-0.now = cut.1.1 ∙ ap (λ (t : List ℕ). codes "/certificate/" ++ t) (flip cut.2) in
    c.certificate_of.ensures ∙ flip (ap paths.route_of whole ∙ certificate-route c.in_ok-strip_prefix-in-Certificate.field-0.now)
