-- The table of strengths, sign by sign.
use Rattle.std.proofs.Common.{ℕ, ◌<◌, ◌≤◌, arith}
use Rattle.pg_grammar.specs.Shapes.{Op, Implies, Or, And, Equal, NotEqual, LessEqual, Less, Plus, Times, Power, level, left_min, right_min}

pub level-right : (a : Op) → level a ≤ right_min a
level-right Implies = omega arith
level-right Or = omega arith
level-right And = omega arith
level-right Equal = omega arith
level-right NotEqual = omega arith
level-right LessEqual = omega arith
level-right Less = omega arith
level-right Plus = omega arith
level-right Times = omega arith
level-right Power = omega arith

pub level-left : (a : Op) → level a ≤ left_min a
level-left Implies = omega arith
level-left Or = omega arith
level-left And = omega arith
level-left Equal = omega arith
level-left NotEqual = omega arith
level-left LessEqual = omega arith
level-left Less = omega arith
level-left Plus = omega arith
level-left Times = omega arith
level-left Power = omega arith

pub left-fits : (a : Op) → left_min a ≤ 76
left-fits Implies = omega arith
left-fits Or = omega arith
left-fits And = omega arith
left-fits Equal = omega arith
left-fits NotEqual = omega arith
left-fits LessEqual = omega arith
left-fits Less = omega arith
left-fits Plus = omega arith
left-fits Times = omega arith
left-fits Power = omega arith

pub right-fits : (a : Op) → right_min a ≤ 75
right-fits Implies = omega arith
right-fits Or = omega arith
right-fits And = omega arith
right-fits Equal = omega arith
right-fits NotEqual = omega arith
right-fits LessEqual = omega arith
right-fits Less = omega arith
right-fits Plus = omega arith
right-fits Times = omega arith
right-fits Power = omega arith

-- from a level that no sign has as its own right end upwards
above : (n : ℕ) (b : Op) → 35 < n → n < 75 → n ≤ level b → n < right_min b
above n Implies x y h = omega (arith, x, h)
above n Or x y h = omega (arith, x, h)
above n And x y h = omega (arith, x, h)
above n Equal x y h = omega (arith, h)
above n NotEqual x y h = omega (arith, h)
above n LessEqual x y h = omega (arith, h)
above n Less x y h = omega (arith, h)
above n Plus x y h = omega (arith, h)
above n Times x y h = omega (arith, h)
above n Power x y h = omega (arith, y, h)

-- a sign that may have a left operand of this level doesn't go on its right operand
pub not-inside : (a b : Op) → left_min a ≤ level b → level a < right_min b
not-inside Implies b h = omega (arith, h, level-right b)
not-inside Or b h = omega (arith, h, level-right b)
not-inside And b h = omega (arith, h, level-right b)
not-inside Equal b h = omega (arith, h, level-right b)
not-inside NotEqual b h = omega (arith, h, level-right b)
not-inside LessEqual b h = omega (arith, h, level-right b)
not-inside Less b h = omega (arith, h, level-right b)
not-inside Plus b h = above 65 b (omega arith) (omega arith) h
not-inside Times b h = above 70 b (omega arith) (omega arith) h
not-inside Power b h = omega (arith, h, level-right b)

-- nor the operand of ¬
pub below-not : (a : Op) → left_min a ≤ 40 → level a < 40
below-not Implies h = omega arith
below-not Or h = omega arith
below-not And h = omega arith
below-not Equal h = omega (arith, h)
below-not NotEqual h = omega (arith, h)
below-not LessEqual h = omega (arith, h)
below-not Less h = omega (arith, h)
below-not Plus h = omega (arith, h)
below-not Times h = omega (arith, h)
below-not Power h = omega (arith, h)
