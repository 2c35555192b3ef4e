-- A reader that takes one command after the other, and stops at the first that has a fault, finds the first fault of all.
use Rattle.std.specs.Prelude.{ℕ, ◌≡◌, ◌<◌, ◌≤◌, List, [], ◌∷◌, map, Option, Some, None, if◌then◌else◌, nat_lt}
use Rattle.pg_base.specs.declared.token.LexFault.{LexFault}
use Rattle.pg_base.specs.Spans.{AreTokens, token_end}
use Rattle.pg_base.specs.Tokens.{Word, Lexed}
use Rattle.pg_logic.specs.Tree.{Fm}
use Rattle.pg_script.specs.Scripts.{lex_place}
use Rattle.pg_syntax.specs.declared.statement.Binder.{Binder as StatedBinder}
use Rattle.pg_syntax.specs.Statements as stated
use Rattle.pg_gametext.specs.Commands.{standing}
use Rattle.pg_gametext.specs.Faults.{Fault, fault, BadToken, rank, least}
use Rattle.pg_gametext.specs.Placed.{Command, Placed, commands}
use Rattle.pg_gametext.specs.Reading.{binder, closed_from}
use Rattle.pg_gametext.specs.Checks.{command_faults}
use Rattle.pg_gametext.specs.Game.{end_faults, faults_behind, end_of, all_faults}

-- ---- the reader

abbrev pub or_else : Option Fault → Option Fault → Option Fault
or_else None other = other
or_else (Some f) other = Some f

-- the first fault of the first command that has one, behind these commands, or else that of the end
abbrev pub first_behind : (end : ℕ) → (before : List Placed) → List Placed → Option Fault
first_behind end before [] = least (end_faults end before)
first_behind end before (c ∷ more) = or_else (least (command_faults before c)) (first_behind end (c ∷ before) more)

-- ---- where faults stand

-- each of some faults
abbrev pub Each : (Fault → Type 0) → List Fault → Type 0
Each P [] = Unit {0}
Each P (f ∷ fs) = P f × Each P fs

-- Between a command's word and the next command, and at the next command only what is missing there.
pub record IsWithin (from to : ℕ) (f : Fault) : Type 0 where
  pub behind : from ≤ f.at
  pub before : f.at ≤ to
  pub no_token : 0 < rank f.kind
  pub missing : f.at ≡ to → rank f.kind ≡ 1

-- the next command stands at this place or behind it, and so does the end
abbrev pub GoesOnAt : (end : ℕ) → ℕ → List Placed → Type 0
GoesOnAt end at [] = at ≤ end
GoesOnAt end at (c ∷ more) = at ≤ c.at

-- The commands stand one behind the other, and the faults of each within it.
abbrev pub AreLaid : (end : ℕ) → (before : List Placed) → List Placed → Type 0
AreLaid end before [] = Unit {0}
AreLaid end before (c ∷ more) = (c.at < c.end) × GoesOnAt end c.end more × Each (IsWithin c.at c.end) (command_faults before c) × AreLaid end (c ∷ before) more

-- The least fault of commands that are laid so is that of the first command that has one.
abbrev pub LaidLaw : Type 0
LaidLaw = (end : ℕ) (before more : List Placed) → AreLaid end before more → least (faults_behind end before more) ≡ first_behind end before more

-- ---- the premise, command by command

-- a command's tokens stand between its word and the next command
abbrev pub StandsWithin : (from to : ℕ) → Word → Type 0
StandsWithin from to w = (from < w.at) × (w.at < to)

abbrev pub AreInside : (from to : ℕ) → List Word → Type 0
AreInside from to [] = Unit {0}
AreInside from to (w ∷ ws) = StandsWithin from to w × AreInside from to ws

-- The same of tokens in order of place, which end there too.
abbrev pub AreOrdered : (from to : ℕ) → List Word → Type 0
AreOrdered from to [] = Unit {0}
AreOrdered from to (w ∷ ws) = StandsWithin from to w × (token_end w ≤ to) × AreOrdered w.at to ws

-- a command with these tokens behind its word
abbrev pub command_at : ℕ → (ℕ → List Word → Command) → (end : ℕ) → List Word → Placed
command_at at told end ws = record { at = at; command = told end ws; end = end }

-- The faults of such a command stand within it, whatever stands before it.
abbrev pub StaysWithin : (ℕ → List Word → Command) → Type 0
StaysWithin told =
    (before : List Placed) (at end : ℕ) (ws : List Word) → at < end → AreOrdered at end ws → Each (IsWithin at end) (command_faults before (command_at at told end ws))

-- ---- laws

-- So are the commands of tokens that stand in order, whatever they are.
abbrev pub ReaderLaw : Type 0
ReaderLaw = (end : ℕ) (ws : List Word) → AreTokens end ws → least (faults_behind end [] (commands end (standing ws))) ≡ first_behind end [] (commands end (standing ws))

-- A fault of a token, which ends the tokens, counts where no fault of a command stands before it.
abbrev pub unless_before : Option LexFault → Option Fault → Option Fault
unless_before None found = found
unless_before (Some e) None = Some (fault (lex_place e) BadToken)
unless_before (Some e) (Some f) = if nat_lt f.at (lex_place e) then Some f else Some (fault (lex_place e) BadToken)

-- What such a reader finds in the tokens of a text is the first of all faults of the text.
abbrev pub TextLaw : Type 0
TextLaw =
    (size : ℕ) (tokens : Lexed) → AreTokens (end_of size tokens.fault) tokens.words →
    let end = end_of size tokens.fault in least (all_faults size tokens) ≡ unless_before tokens.fault (first_behind end [] (commands end (standing tokens.words)))

-- ---- statements

-- The formula of a statement of the Rust type is that of the statement that it stands for.
abbrev pub ClosedLaw : Type 0
ClosedLaw = (n : ℕ) (bs : List StatedBinder) (target : Fm) → closed_from n (map binder bs) target ≡ stated.closed_from n bs target
