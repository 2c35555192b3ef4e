-- What each token is to a script's grammar, and where tokens begin.
use Rattle.std.specs.Prelude.{ℕ, Bool, true, false, List, [], ◌∷◌, if◌then◌else◌, codes}
use Rattle.std.specs.Str.{bytes_eq}
use Rattle.pg_base.specs.declared.token.Sign.{Sign}
use Rattle.pg_base.specs.declared.token.Sign.TheVariants as sign
use Rattle.pg_base.specs.declared.token.TokenKind.{TokenKind}
use Rattle.pg_base.specs.declared.token.TokenKind.TheVariants as kind
use Rattle.pg_base.specs.Tokens.{Word}
use Rattle.pg_base.specs.Reserved.{is_reserved}
use Rattle.pg_script.specs.declared.mark.Mark.{Mark}
use Rattle.pg_script.specs.declared.mark.Mark.TheVariants.{Open, Close, OpenBracket, CloseBracket, Comma, Semicolon, Colon, Assign, LeftArrow, Bullet, Free, With, At, Reserved, Number, Text, Other}

abbrev pub name_mark : List ℕ → Mark
name_mark text =
    if bytes_eq text (codes "with") then With
    else (if bytes_eq text (codes "at") then At
    else (if is_reserved text then Reserved else Free))

abbrev pub sign_mark : Sign → Mark
sign_mark sign.OpenParen = Open
sign_mark sign.CloseParen = Close
sign_mark sign.OpenBracket = OpenBracket
sign_mark sign.CloseBracket = CloseBracket
sign_mark sign.Comma = Comma
sign_mark sign.Semicolon = Semicolon
sign_mark sign.Colon = Colon
sign_mark sign.Assign = Assign
sign_mark sign.LeftArrow = LeftArrow
sign_mark sign.Bullet = Bullet
sign_mark _ = Other

abbrev pub kind_mark : TokenKind → List ℕ → Mark
kind_mark kind.Name text = name_mark text
kind_mark kind.Number text = Number
kind_mark kind.Text text = Text
kind_mark (kind.Sign s) text = sign_mark s

abbrev pub mark : Word → Mark
mark w = kind_mark w.kind w.text

-- a name, reserved or not
abbrev pub is_name_kind : TokenKind → Bool
is_name_kind kind.Name = true
is_name_kind _ = false

abbrev pub is_name : Word → Bool
is_name w = is_name_kind w.kind

-- where the first of these tokens begins, or the end
abbrev pub place : ℕ → List Word → ℕ
place end [] = end
place end (w ∷ ws) = w.at
