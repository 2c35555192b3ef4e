-- The frames that the Rust types stand for.
use Rattle.std.specs.Prelude.{List, map}
use Rattle.pg_moves.specs.Frames as moves
use Rattle.pg_terms.specs.View.{term, formula}
use Rattle.pg_kernel.specs.View.{proof}
use Rattle.pg_frames.specs.declared.frame.Frame.{Frame}
use Rattle.pg_frames.specs.declared.frame.Frame.TheVariants.{Whole, UnderPredi, UnderAlli, UnderImpi, UnderOrl, UnderOrr, UnderFale, UnderExi, Pair, Split, OpenUp, Cut, Change, Lemma, Rewrite, Give, Applied, Induct, ByParts}
use Rattle.pg_frames.specs.declared.frame.Stage.{Stage}
use Rattle.pg_frames.specs.declared.frame.Stage.TheVariants.{ForAll, WhereSo}

abbrev pub stage_of : Stage → moves.Stage
stage_of (ForAll a t) = moves.for_all (formula a) (term t)
stage_of (WhereSo a) = moves.where_so (formula a)

abbrev pub frame_of : Frame → moves.Frame
frame_of (Whole d) = moves.whole (proof d)
frame_of UnderPredi = moves.under_predi
frame_of UnderAlli = moves.under_alli
frame_of UnderImpi = moves.under_impi
frame_of UnderOrl = moves.under_orl
frame_of UnderOrr = moves.under_orr
frame_of UnderFale = moves.under_fale
frame_of (UnderExi t) = moves.under_exi (term t)
frame_of Pair = moves.pair
frame_of (Split a b d) = moves.split (formula a) (formula b) (proof d)
frame_of (OpenUp a d) = moves.open_up (formula a) (proof d)
frame_of (Cut a d) = moves.cut (formula a) (proof d)
frame_of (Change a d) = moves.change (formula a) (proof d)
frame_of (Lemma a m) = moves.lemma (formula a) m
frame_of (Rewrite a t u d) = moves.rewrite (formula a) (term t) (term u) (proof d)
frame_of (Give a i) = moves.give (formula a) i
frame_of (Applied stages d) = moves.applied (map stage_of stages) (proof d)
frame_of (Induct a t k) = moves.induct (formula a) (term t) k
frame_of (ByParts b y k d) = moves.by_parts (formula b) (formula y) k (proof d)

-- the frames of a run, in the order of its moves
abbrev pub frames_of : List Frame → List moves.Frame
frames_of fs = map frame_of fs
