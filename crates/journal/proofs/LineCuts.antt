-- Lines one after the other.
use Rattle.std.proofs.Common.{◌≡◌, ℕ, suc, ◌+◌, ◌<◌, Bool, true, false, cond, not, ◌==◌, List, [], ◌∷◌, ◌++◌, ◌⊎◌, inl, inr, ◌≤◌, length, take, drop, sym, refl, ap, ◌∙◌, one-add, add-one, arith}
use Rattle.std.specs.List.{onto_first, position_or_len, slice_split}
use Rattle.journal.specs.Words.{text_after_line, line_of, lines_of, text_before_comment, words_in, words_of, words_of_lines}

-- a text that is not empty has a first line, and the lines behind it
pub lines_of-front : (t : List ℕ) → 0 < length t →
    lines_of t ≡ line_of t ∷ lines_of (text_after_line t)
lines_of-front [] h = absurd (omega arith)
lines_of-front (b ∷ bs) h =
    elim (b == 10) as (λ (v : Bool). cond v ([] ∷ lines_of bs) (onto_first b (lines_of bs))
    ≡ take (cond (not v) (1 + position_or_len (λ c. c == 10) bs) 0) (b ∷ bs) ∷ lines_of
    (drop (cond (not v) (1 + position_or_len (λ c. c == 10) bs) 0 + 1) (b ∷ bs))) [
      | true ↦ refl
      | false ↦ go bs (lines_of-front bs)
    ]
  where
    go : (cs : List ℕ) → (0 < length cs →
        lines_of cs ≡ line_of cs ∷ lines_of (text_after_line cs)) →
        onto_first b (lines_of cs)
        ≡ take (1 + position_or_len (λ c. c == 10) cs) (b ∷ cs) ∷ lines_of
        (drop (1 + position_or_len (λ c. c == 10) cs + 1) (b ∷ cs))
    go [] more = refl
    go (c ∷ cs) more =
        let k : ℕ = position_or_len (λ d. d == 10) (c ∷ cs) in
        ap (onto_first b) (more (omega arith))
        ∙ ap (λ (n : ℕ). (b ∷ take k (c ∷ cs)) ∷ lines_of (drop n (c ∷ cs))) (add-one k)
        ∙ sym (ap (λ (n : ℕ). take n (b ∷ c ∷ cs) ∷ lines_of (drop (n + 1) (b ∷ c ∷ cs)))
        (one-add k) ∙ ap (λ (n : ℕ). (b ∷ take k (c ∷ cs)) ∷ lines_of (drop n (b ∷ c ∷ cs)))
        (add-one (suc k)))

-- a text has no more lines than bytes
pub length-lines_of : (t : List ℕ) → length (lines_of t) ≤ length t
length-lines_of [] = omega arith
length-lines_of (b ∷ bs) = by (b == 10) (lines_of bs) (length-lines_of bs)
  where
    by : (v : Bool) (ls : List (List ℕ)) → length ls ≤ length bs →
        length (cond v ([] ∷ ls) (onto_first b ls)) ≤ suc (length bs)
    by true ls h = omega arith
    by false [] h = omega arith
    by false (l ∷ ls) h = omega arith

-- the pieces that line feeds part are the lines, and behind a line feed at the end an empty one
slice_split-lines_of : (t : List ℕ) →
    (slice_split (λ b. b == 10) t ≡ lines_of t)
    ⊎ (slice_split (λ b. b == 10) t ≡ lines_of t ++ [] ∷ [])
slice_split-lines_of [] = inr refl
slice_split-lines_of (b ∷ bs) =
    by (b == 10) (slice_split (λ c. c == 10) bs) (lines_of bs) (slice_split-lines_of bs)
  where
    by : (v : Bool) (ps ls : List (List ℕ)) → (ps ≡ ls) ⊎ (ps ≡ ls ++ [] ∷ []) →
        (cond v ([] ∷ ps) (onto_first b ps) ≡ cond v ([] ∷ ls) (onto_first b ls))
        ⊎ (cond v ([] ∷ ps) (onto_first b ps) ≡ cond v ([] ∷ ls) (onto_first b ls) ++ [] ∷ [])
    by true ps ls (inl e) = inl (ap (λ (xs : List (List ℕ)). [] ∷ xs) e)
    by true ps ls (inr e) = inr (ap (λ (xs : List (List ℕ)). [] ∷ xs) e)
    by false ps ls (inl e) = inl (ap (onto_first b) e)
    by false ps [] (inr e) = inl (ap (onto_first b) e)
    by false ps (l ∷ ls) (inr e) = inr (ap (onto_first b) e)

-- the words of a text are those of its lines
pub words_in-lines_of : (t : List ℕ) → words_in t ≡ words_of_lines (lines_of t)
words_in-lines_of t = by (slice_split-lines_of t)
  where
    more : (ls : List (List ℕ)) → words_of_lines (ls ++ [] ∷ []) ≡ words_of_lines ls
    more [] = refl
    more (l ∷ ls) = ap (λ (ws : List (List ℕ)). words_of (text_before_comment l) ++ ws) (more ls)

    by : (slice_split (λ b. b == 10) t ≡ lines_of t)
        ⊎ (slice_split (λ b. b == 10) t ≡ lines_of t ++ [] ∷ []) →
        words_in t ≡ words_of_lines (lines_of t)
    by (inl e) = ap words_of_lines e
    by (inr e) = ap words_of_lines e ∙ more (lines_of t)
