-- How a line of text is cut into words.
use Rattle.std.specs.Prelude.{ℕ, Bool, not, cond, ◌&&◌, ◌||◌, List, [], ◌∷◌, map, filter, length, ◌==◌, nat_le, nat_lt}
use Rattle.std.specs.Borrow.{Bor}
use Rattle.std.specs.Char.{is_ascii_alphabetic, is_ascii_digit}
use Rattle.std.specs.List.{after_first, before_first, flat_map, onto_first, slice_split}

-- space, tab and carriage return stand between words
abbrev pub is_blank_byte : ℕ → Bool
is_blank_byte b = b == 32 || (b == 9 || b == 13)

-- a name has letters, digits, a few signs, and whatever is not ASCII
abbrev pub is_name_byte : ℕ → Bool
is_name_byte b =
    nat_le 128 b
    || (is_ascii_alphabetic b || (is_ascii_digit b || (b == 45 || (b == 95 || b == 46))))

-- a file's name has no blank and no control character
abbrev pub is_file_byte : ℕ → Bool
is_file_byte b = nat_lt 32 b && not (b == 127)

-- the first line, and what stands behind its line feed
abbrev pub line_of : List ℕ → List ℕ
line_of text = before_first (λ b. b == 10) text

abbrev pub text_after_line : List ℕ → List ℕ
text_after_line text = after_first (λ b. b == 10) text

-- the lines, each up to a line feed or to the end of the text: nothing stands behind the last line
-- feed of a text that ends in one
abbrev pub lines_of : List ℕ → List (List ℕ)
lines_of [] = []
lines_of (b ∷ bs) = cond (b == 10) ([] ∷ lines_of bs) (onto_first b (lines_of bs))

-- what stands before the comment
abbrev pub text_before_comment : List ℕ → List ℕ
text_before_comment line = before_first (λ b. b == 35) line

-- the words: the pieces between blanks that are not empty
abbrev pub words_of : List ℕ → List (List ℕ)
words_of text = filter (λ word. not (length word == 0)) (slice_split is_blank_byte text)

-- the words of lines, line by line, without their comments
abbrev pub words_of_lines : List (List ℕ) → List (List ℕ)
words_of_lines lines = flat_map (λ line. words_of (text_before_comment line)) lines

-- the words of a whole text, which line feeds part into lines
abbrev pub words_in : List ℕ → List (List ℕ)
words_in text = words_of_lines (slice_split (λ b. b == 10) text)

-- what slices hold
abbrev pub texts_of : List (Bor (List ℕ)) → List (List ℕ)
texts_of words = map (λ x. x.now) words
