-- The laws of share rules.
use Rattle.std.specs.Prelude.{◌≡◌, ℕ, ◌<◌, true, false, List, length, sum, slice_index, if◌then◌else◌}
use Rattle.shares.specs.Fair.{fair, zeros, Near}

-- the meaning of a rule: the shares of a quantity by weights
abbrev pub Rule : Type 0
Rule = ℕ → List ℕ → List ℕ

-- one share for each weight
abbrev pub GivesOneEach : Rule → Type 0
GivesOneEach rule = (a : ℕ) (ws : List ℕ) → length (rule a ws) ≡ length ws

-- nothing is lost and nothing is added
abbrev pub SharesWhole : Rule → Type 0
SharesWhole rule = (a : ℕ) (ws : List ℕ) → fair a ws ≡ true → sum (rule a ws) ≡ a

-- each share is less than one litre from its exact proportion
abbrev pub SharesNear : Rule → Type 0
SharesNear rule = (a : ℕ) (ws : List ℕ) (i : ℕ) → fair a ws ≡ true → i < length ws →
    Near a (sum ws) (slice_index ws i) (slice_index (rule a ws) i)

-- no weight, no share, where the quantity can be shared
abbrev pub SharesIdle : Rule → Type 0
SharesIdle rule = (a : ℕ) (ws : List ℕ) (i : ℕ) → fair a ws ≡ true → i < length ws →
    slice_index ws i ≡ 0 → slice_index (rule a ws) i ≡ 0

-- the laws of share rules
pub record IsShareRule (rule : Rule) : Type 0 where
  pub places : GivesOneEach rule
  pub whole : SharesWhole rule
  pub near : SharesNear rule
  -- no weight, no share
  pub idle : (a : ℕ) (ws : List ℕ) (i : ℕ) → i < length ws → slice_index ws i ≡ 0 →
      slice_index (rule a ws) i ≡ 0
  -- what cannot be shared is not shared at all
  pub refused : (a : ℕ) (ws : List ℕ) → fair a ws ≡ false → rule a ws ≡ zeros (length ws)

-- the laws of a rule for what can be shared; of the other two, idle follows from near, and refused
-- from the guard
pub record SharesFairly (rule : Rule) : Type 0 where
  pub places : GivesOneEach rule
  pub whole : SharesWhole rule
  pub near : SharesNear rule

-- the rule where the quantity can be shared, and else 0 for every place
abbrev pub guarded_rule : Rule → Rule
guarded_rule rule a ws = if fair a ws then rule a ws else zeros (length ws)
