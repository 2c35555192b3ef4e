-- What a token is to the grammar of shapes.
use Rattle.std.specs.Prelude.{ℕ, List, if◌then◌else◌, codes}
use Rattle.std.specs.Str.{bytes_eq}
use Rattle.pg_base.specs.declared.token.Sign.{Sign}
use Rattle.pg_base.specs.declared.token.Sign.TheVariants as sign
use Rattle.pg_base.specs.declared.token.TokenKind.{TokenKind}
use Rattle.pg_base.specs.declared.token.TokenKind.TheVariants as kind
use Rattle.pg_base.specs.Tokens.{Word}
use Rattle.pg_base.specs.Reserved.{is_reserved}
use Rattle.pg_grammar.specs.Shapes as grammar
use Rattle.pg_shape.specs.View.{op, quantifier, word}
use Rattle.pg_shape.specs.declared.symbol.Sym.{Sym}
use Rattle.pg_shape.specs.declared.symbol.Sym.TheVariants.{Name, Number, False, Succ, Infix, Not, Quantifier, Open, Close, Comma, Colon, Nat, Other}

-- a sign at this byte; [ ] ; := | ← and · stand in no shape
abbrev pub sign_symbol : ℕ → Sign → grammar.Sym
sign_symbol at sign.OpenParen = grammar.Open at
sign_symbol at sign.CloseParen = grammar.Close
sign_symbol at sign.Comma = grammar.Comma
sign_symbol at sign.Colon = grammar.Colon
sign_symbol at sign.Plus = grammar.Sign at grammar.Plus
sign_symbol at sign.Star = grammar.Sign at grammar.Times
sign_symbol at sign.Caret = grammar.Sign at grammar.Power
sign_symbol at sign.Equal = grammar.Sign at grammar.Equal
sign_symbol at sign.NotEqual = grammar.Sign at grammar.NotEqual
sign_symbol at sign.LessEqual = grammar.Sign at grammar.LessEqual
sign_symbol at sign.Less = grammar.Sign at grammar.Less
sign_symbol at sign.And = grammar.Sign at grammar.And
sign_symbol at sign.Or = grammar.Sign at grammar.Or
sign_symbol at sign.Arrow = grammar.Sign at grammar.Implies
sign_symbol at sign.Not = grammar.NotSign at
sign_symbol at sign.ForAll = grammar.QuantSign at grammar.ForAll
sign_symbol at sign.Exists = grammar.QuantSign at grammar.Exists
sign_symbol at sign.Nat = grammar.NatSign
sign_symbol at _ = grammar.Other

-- a name at this byte; but for `succ` and `False` a reserved word stands in no shape
abbrev pub name_symbol : ℕ → List ℕ → grammar.Sym
name_symbol at text =
    if bytes_eq text (codes "succ") then grammar.SuccWord at
    else (if bytes_eq text (codes "False") then grammar.FalseWord at
    else (if is_reserved text then grammar.Other
    else grammar.Name (record { at = at; text = text })))

abbrev pub kind_symbol : TokenKind → ℕ → List ℕ → grammar.Sym
kind_symbol kind.Name at text = name_symbol at text
kind_symbol kind.Number at text = grammar.Number (record { at = at; text = text })
kind_symbol kind.Text at text = grammar.Other
kind_symbol (kind.Sign s) at text = sign_symbol at s

abbrev pub symbol : Word → grammar.Sym
symbol w = kind_symbol w.kind w.at w.text

-- the symbol that a value of the Rust type stands for
abbrev pub sym : Sym → grammar.Sym
sym (Name w) = grammar.Name (word w)
sym (Number w) = grammar.Number (word w)
sym (False at) = grammar.FalseWord at
sym (Succ at) = grammar.SuccWord at
sym (Infix at o) = grammar.Sign at (op o)
sym (Not at) = grammar.NotSign at
sym (Quantifier at q) = grammar.QuantSign at (quantifier q)
sym (Open at) = grammar.Open at
sym Close = grammar.Close
sym Comma = grammar.Comma
sym Colon = grammar.Colon
sym Nat = grammar.NatSign
sym Other = grammar.Other
