-- The words of a line as a chain gives them.
use Rattle.std.proofs.Common.{◌≡◌, ℕ, Bool, false, List, filter, Bor, Option}
use Rattle.std.proofs.lemmas.Iterator.{YieldsList}
use Rattle.std.proofs.lemmas.Iterator.Consumers.{YieldsList-from_filter}
use Rattle.std.proofs.lemmas.Iterator.Splits.{YieldsList-from_slice_split}
use Rattle.std.specs.Iterator.Adapters.{filter_source, filter_callee, filter_steps}
use Rattle.std.specs.Iterator.Runs.{Run, EachRunFrom, IsSplitRun}
use Rattle.std.specs.List.{slice_split}
use Rattle.std.specs.Fn.{CalledAt}
use Rattle.std.specs.Slice.Iter as slice
use Rattle.std.specs.declared.iter.Filter.{Filter}
use Rattle.std.specs.declared.slice.Split.{Split}
use denote.Param.Members.{Mut}

-- the pieces of a slice that is cut at each element where a closure is true; the first fact only
-- shows the closure
pub YieldsList-pieces : {F : Type 0} {g : Mut F (Bor ℕ × Unit {0}) Bool} {f : F} {s : Split ℕ F}
    (p : ℕ → Bool) (xs : List ℕ) → EachRunFrom (slice.split_steps g) s (λ q. IsSplitRun q xs g f) →
    slice.split_rest s ≡ xs → slice.split_done s ≡ false → slice.split_callee s ≡ f →
    ((x : ℕ) (b : Bool) (q : F) → CalledAt g f x b q → (q ≡ f) × (b ≡ p x)) →
    YieldsList (slice.split_steps g) (λ x. x.now) s (slice_split p xs)
YieldsList-pieces {g} p xs shown rest done callee test =
    YieldsList-from_slice_split g p xs rest done callee test

-- what a filter leaves of a chain's items, likewise
pub YieldsList-kept : {S A B F : Type 0} {steps : S → Option A → S → Type 0} {v : A → B}
    {ys : List B} {g : Mut F (Bor A × Unit {0}) Bool} {f : F} {s : Filter S F}
    {Q : Run (filter_steps steps g) → Type 0} (test : B → Bool) →
    EachRunFrom (filter_steps steps g) s Q → YieldsList steps v (filter_source s) ys →
    filter_callee s ≡ f → ((x : A) (b : Bool) (q : F) → CalledAt g f x b q →
    (q ≡ f) × (b ≡ test (v x))) → YieldsList (filter_steps steps g) v s (filter test ys)
YieldsList-kept {g} test shown road callee calls = YieldsList-from_filter g test road callee calls
