-- The texts of tokens, and that a name's isn't empty.
use Rattle.std.proofs.Common.{◌≡◌, ◌≢◌, ℕ, ◌<◌, Bool, true, false, List, [], ◌∷◌, ◌++◌, length, All, refl, subst, arith, inl, inr, IsTrue}
use Rattle.std.proofs.lemmas.List.Elements.{All-from_recursion}
use Rattle.std.proofs.lemmas.Str.{chars-nil}
use Rattle.std.specs.List.{AllByRecursion}
use Rattle.pg_base.specs.declared.token.Sign.{Sign}
use Rattle.pg_base.specs.declared.token.Sign.TheVariants as sign
use Rattle.pg_base.specs.declared.token.TokenKind.{TokenKind}
use Rattle.pg_base.specs.declared.token.TokenKind.TheVariants.{Name, Number, Text, Sign as SignToken}
use Rattle.pg_base.specs.Layout.{IsToken, written}
use Rattle.pg_base.specs.Spans.{IsTokenText}
use Rattle.pg_base.specs.Tokens.{Word}
use Rattle.pg_script.specs.declared.block.Kind.{Kind}
use Rattle.pg_script.specs.declared.block.Kind.TheVariants as kind
use Rattle.pg_script.specs.declared.mark.Mark.{Mark}
use Rattle.pg_script.specs.declared.mark.Mark.TheVariants.{Bullet, Free}
use Rattle.pg_script.specs.Blocks.{named_kind, kind_of}
use Rattle.pg_script.specs.Forms.{AreNames}
use Rattle.pg_script.specs.Marks.{sign_mark, kind_mark, is_name_kind, is_name}
use Rattle.pg_runs.specs.Written.{IsNamed}

-- ---- tokens with texts of their kinds

abbrev pub IsText : Word → Type 0
IsText w = IsTokenText w.kind w.text

abbrev pub Texts : List Word → Type 0
Texts ws = AllByRecursion IsText ws

pub front : (xs ys : List Word) → Texts (xs ++ ys) → Texts xs
front [] ys t = tt
front (x ∷ xs) ys t = (t.0, front xs ys t.1)

pub behind : (xs ys : List Word) → Texts (xs ++ ys) → Texts ys
behind [] ys t = t
behind (x ∷ xs) ys t = behind xs ys t.1

pub all : (ws : List Word) → Texts ws → All IsText ws
all ws t = All-from_recursion IsText ws t

-- ---- none of them is empty

not-true : false ≡ true → ⊥
not-true h = cc

pub not-empty : (k : TokenKind) (cs : List ℕ) → IsToken k cs [] → written k cs ≢ []
not-empty Name [] t e = not-true t.0.0
not-empty Number [] t e = omega (arith, t.0.0)
not-empty (SignToken s) [] (inl h) e = h
not-empty (SignToken s) [] (inr h) e = not-true h.0.0
not-empty Text [] t e = cc
not-empty Name (c ∷ cs) t e = cc
not-empty Number (c ∷ cs) t e = cc
not-empty Text (c ∷ cs) t e = cc
not-empty (SignToken s) (c ∷ cs) t e = cc

pub some : (k : TokenKind) (text : List ℕ) → IsTokenText k text → written k text ≢ []
some k [] t e = not-empty k [] (subst (λ x. IsToken k x []) chars-nil t) e
some Name (c ∷ cs) t e = cc
some Number (c ∷ cs) t e = cc
some Text (c ∷ cs) t e = cc
some (SignToken s) (c ∷ cs) t e = cc

pub not-none : (xs : List ℕ) → xs ≢ [] → 0 < length xs
not-none [] h = absurd (h refl)
not-none (x ∷ xs) h = omega arith

pub name-some : (k : TokenKind) (text : List ℕ) → IsTrue (is_name_kind k) → IsTokenText k text → text ≢ []
name-some Name text n t = some Name text t
name-some Number text n t = absurd (not-true n)
name-some Text text n t = absurd (not-true n)
name-some (SignToken s) text n t = absurd (not-true n)

pub names-some : (ws : List Word) → AreNames ws → Texts ws → AllByRecursion IsNamed ws
names-some [] n t = tt
names-some (w ∷ ws) n t = (name-some w.kind w.text n.0 t.0, names-some ws n.1 t.1)

-- ---- a move's word is a name

abbrev marked : Bool → Mark → List ℕ → Kind
marked sample m text = elim m [ Bullet ↦ kind.Focus | Free ↦ named_kind sample text | _ ↦ kind.NoItem ]

no-sign : (sample : Bool) (s : Sign) (text : List ℕ) → marked sample (sign_mark s) text ≡ kind.Move → ⊥
no-sign sample sign.Bullet text h = cc
no-sign sample s text h = cc

by-kind : (sample : Bool) (k : TokenKind) (text : List ℕ) → marked sample (kind_mark k text) text ≡ kind.Move → IsTrue (is_name_kind k)
by-kind sample Name text h = refl
by-kind sample Number text h = cc
by-kind sample Text text h = cc
by-kind sample (SignToken s) text h = absurd (no-sign sample s text h)

pub move-name : (sample : Bool) (w : Word) → kind_of sample w ≡ kind.Move → IsTrue (is_name w)
move-name sample w h = by-kind sample w.kind w.text h
