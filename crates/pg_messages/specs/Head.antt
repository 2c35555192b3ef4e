-- Where the head of a message ends.
use Rattle.std.specs.Prelude.{ℕ, zero, suc, ◌+◌, ◌≤◌, Bool, ◌&&◌, ◌||◌, ◌==◌, List, [], ◌∷◌, length, take, drop, Option, Some, None, nat_lt, if◌then◌else◌}
use Rattle.std.specs.List.{position_or_len}
use Rattle.std.specs.Str.{bytes_eq}
use Rattle.httparse.specs.Grammar.{RequestHead, ReadsRequest}

-- how many bytes the empty lines at the front have
unfoldable pub blank_len : List ℕ → ℕ
blank_len [] = 0
blank_len (b ∷ []) = if b == 10 then 1 else 0
blank_len (b ∷ c ∷ bytes) =
    if b == 10 then suc (blank_len (c ∷ bytes)) else (if (b == 13) && (c == 10) then suc (suc (blank_len bytes)) else 0)

-- how many bytes the first line has with its line feed, where it has ended
abbrev pub line_len : List ℕ → Option ℕ
line_len bytes =
    let n = position_or_len (λ b. b == 10) bytes in
    if nat_lt n (length bytes) then Some (suc n) else None

-- the line is empty: a carriage return before the line feed counts as nothing
abbrev pub is_empty_line : List ℕ → Bool
is_empty_line line = bytes_eq line (10 ∷ []) || bytes_eq line (13 ∷ 10 ∷ [])

-- a head has not ended yet, is over the limits, or has ended: so many bytes of empty lines, then so many of the head
pub data Scan : Type 0 where
  open_head over_limit : Scan
  ended : ℕ → ℕ → Scan

abbrev pub later : ℕ → Scan → Scan
later n open_head = open_head
later n over_limit = over_limit
later n (ended blank m) = ended blank (n + m)

abbrev pub line_then : ℕ → Option ℕ → List ℕ → (List ℕ → Scan) → Scan
line_then blank None bytes rest = open_head
line_then blank (Some n) bytes rest =
    if is_empty_line (take n bytes) then ended blank n else later n (rest (drop n bytes))

-- the lines up to the first empty one, which is one of the first `most`; so many bytes were passed over before
unfoldable pub head_lines : ℕ → ℕ → List ℕ → Scan
head_lines blank zero bytes = over_limit
head_lines blank (suc most) bytes = line_then blank (line_len bytes) bytes (head_lines blank most)

-- a head that has not ended in the first 16,384 bytes is over the limit
abbrev pub within_limit : ℕ → Scan → Scan
within_limit length open_head = if length == 16384 then over_limit else open_head
within_limit length scan = scan

-- the head behind the empty lines, in these bytes alone
abbrev pub lines_behind : ℕ → List ℕ → Scan
lines_behind blank window = within_limit (length window) (head_lines blank 66 (drop blank window))

-- the head at the front, behind the empty lines that are passed over
unfoldable pub head_scan : List ℕ → Scan
head_scan bytes = lines_behind (blank_len (take 16384 bytes)) (take 16384 bytes)

-- the bytes as a whole are a request head of at most 64 fields
abbrev pub IsWholeHead : List ℕ → RequestHead → Type 0
IsWholeHead bytes h = ReadsRequest bytes h [] × (length h.fields ≤ 64)

-- the head that the bytes are, or None where they are none
abbrev pub IsHead : List ℕ → Option RequestHead → Type 0
IsHead bytes None = (h : RequestHead) → IsWholeHead bytes h → ⊥
IsHead bytes (Some h) = IsWholeHead bytes h
