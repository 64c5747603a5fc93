-- Which call the words of a line say.
use Rattle.std.specs.Prelude.{ℕ, cond, List, [], ◌∷◌, length, drop, ℤ, Some, None, Ok, Err, codes, Option, Result, ◌==◌, nat_le, slice_index, slice_index_or}
use Rattle.std.specs.Option.{ok_or, option_map}
use Rattle.std.specs.Result.{result_ok}
use Rattle.std.specs.Str.{bytes_eq}
use Rattle.journal.specs.declared.call.Call.{Call}
use Rattle.journal.specs.declared.call.Call.TheVariants as call
use Rattle.journal.specs.declared.fault.Fault.{Fault}
use Rattle.journal.specs.declared.fault.Fault.TheVariants.{UnknownCall, Form, NotTemperature, NotName, NotFile, NotRule}
use Rattle.journal.specs.declared.kind.Kind.{Kind}
use Rattle.journal.specs.declared.kind.Kind.TheVariants as of
use Rattle.journal.specs.declared.kind.Rule.{Rule}
use Rattle.journal.specs.declared.kind.Shape.{Shape}
use Rattle.journal.specs.declared.kind.Shape.TheVariants as shaped
use Rattle.journal.specs.Words.{is_file_byte, is_name_byte}
use Rattle.journal.specs.Numbers.{number_of, and_then, numbers_of, word_check, tenths_of}
use Rattle.journal.specs.Vocabulary.{kind_by_word, shape_by_word, rule_by_word}

-- a call, with its names as plain text
pub data PlainCall : Type 0 where
  ledger : ℕ → PlainCall
  sheet : ℕ → PlainCall
  table : List ℕ → List ℕ → PlainCall
  even : List ℕ → ℕ → PlainCall
  season : List ℕ → ℕ → List ℕ → List ℕ → PlainCall
  trader : Option (List ℕ) → PlainCall
  point : ℕ → ℕ → ℕ → ℕ → ℕ → ℕ → PlainCall
  opens : ℤ → ℕ → PlainCall
  enter : ℕ → ℕ → PlainCall
  inflow : ℕ → ℕ → PlainCall
  share : List ℕ → Rule → PlainCall
  abandon : PlainCall
  read : ℕ → ℕ → PlainCall
  book : ℕ → PlainCall
  hand_over : ℕ → ℕ → PlainCall
  withdraw : ℕ → PlainCall
  quantity : ℕ → PlainCall

-- the call, wherever its names lie
abbrev pub plain_call : Call → PlainCall
plain_call (call.Ledger d) = ledger d
plain_call (call.Sheet n) = sheet n
plain_call (call.Table n f) = table n.now f.now
plain_call (call.Even n f) = even n.now f
plain_call (call.Season n s f b) = season n.now s f.now b.now
plain_call (call.Trader n) = trader (option_map (λ x. x.now) n)
plain_call (call.Point t s d l r f) = point t s d l r f
plain_call (call.Open t s) = opens t s
plain_call (call.Enter t l) = enter t l
plain_call (call.Inflow l r) = inflow l r
plain_call (call.Share p r) = share p.now r
plain_call call.Abandon = abandon
plain_call (call.Read p r) = read p r
plain_call (call.Book p) = book p
plain_call (call.HandOver p t) = hand_over p t
plain_call (call.Withdraw p) = withdraw p
plain_call (call.Quantity t) = quantity t

-- the same of what reading a call gave
abbrev pub plain_result : Result Call Fault → Result PlainCall Fault
plain_result (Ok c) = Ok (plain_call c)
plain_result (Err f) = Err f

-- and of what reading a line gave
abbrev pub plain_line : Result (Option Call) Fault → Result (Option PlainCall) Fault
plain_line (Ok c) = Ok (option_map plain_call c)
plain_line (Err f) = Err f

abbrev word_at : List (List ℕ) → ℕ → List ℕ
word_at ws i = slice_index_or ws i []

-- a result where just so many words stand behind the first, else that the call has another form
abbrev pub result_for_count :
    Kind → ℕ → List (List ℕ) → Result PlainCall Fault → Result PlainCall Fault
result_for_count k n ws r = cond (length ws == n) r (Err (Form k))

abbrev pub max32 : ℕ
max32 = 4294967295

abbrev pub max64 : ℕ
max64 = 18446744073709551615

-- a call of one number of 32 bits
abbrev pub one_number_call : Kind → (ℕ → PlainCall) → List (List ℕ) → Result PlainCall Fault
one_number_call k f ws =
    and_then (numbers_of k (max32 ∷ []) ws) (λ ns.
    Ok (f (slice_index ns 0)))

-- a call of two numbers, each within its own limit
abbrev pub two_number_call :
    Kind → (limit more : ℕ) → (ℕ → ℕ → PlainCall) → List (List ℕ) → Result PlainCall Fault
two_number_call k limit more f ws =
    and_then (numbers_of k (limit ∷ more ∷ []) ws) (λ ns.
    Ok (f (slice_index ns 0) (slice_index ns 1)))

-- what the words behind `profile NAME table`, `profile NAME even` and `profile NAME season` say
abbrev pub shape_call : Shape → List ℕ → List (List ℕ) → Result PlainCall Fault
shape_call shaped.Table name ws =
    result_for_count of.Profile 1 ws
    (and_then (word_check is_file_byte NotFile (word_at ws 0)) (λ _.
    Ok (table name (word_at ws 0))))
shape_call shaped.Even name ws = one_number_call of.Profile (even name) ws
shape_call shaped.Season name ws =
    result_for_count of.Profile 4 ws
    (and_then (number_of max32 (word_at ws 0)) (λ s.
    and_then (word_check is_file_byte NotFile (word_at ws 1)) (λ _.
    cond (bytes_eq (word_at ws 2) (codes "over"))
    (Ok (season name s (word_at ws 1) (word_at ws 3)))
    (Err (Form of.Profile)))))

abbrev pub profile_call : List (List ℕ) → Result PlainCall Fault
profile_call ws =
    cond (nat_le 2 (length ws))
    (and_then (word_check is_name_byte NotName (word_at ws 0)) (λ _.
    and_then (ok_or (shape_by_word (word_at ws 1)) (Form of.Profile)) (λ s.
    shape_call s (word_at ws 0) (drop 2 ws))))
    (Err (Form of.Profile))

abbrev pub trader_call : List (List ℕ) → Result PlainCall Fault
trader_call ws =
    cond (length ws == 0)
    (Ok (trader None))
    (result_for_count of.Trader 1 ws
    (and_then (word_check is_name_byte NotName (word_at ws 0)) (λ _.
    Ok (trader (Some (word_at ws 0))))))

-- what the words behind a call's first say
abbrev pub kind_call : Kind → List (List ℕ) → Result PlainCall Fault
kind_call of.Ledger ws = one_number_call of.Ledger ledger ws
kind_call of.Sheet ws = one_number_call of.Sheet sheet ws
kind_call of.Profile ws = profile_call ws
kind_call of.Trader ws = trader_call ws
kind_call of.Point ws =
    and_then (numbers_of of.Point (max32 ∷ max32 ∷ max32 ∷ max32 ∷ max32 ∷ max32 ∷ []) ws) (λ ns.
    Ok (point (slice_index ns 0) (slice_index ns 1) (slice_index ns 2) (slice_index ns 3)
    (slice_index ns 4) (slice_index ns 5)))
kind_call of.Open ws =
    result_for_count of.Open 2 ws
    (and_then (ok_or (result_ok (tenths_of (word_at ws 0))) NotTemperature) (λ t.
    and_then (number_of 255 (word_at ws 1)) (λ s.
    Ok (opens t s))))
kind_call of.Enter ws = two_number_call of.Enter max32 max64 enter ws
kind_call of.Inflow ws = two_number_call of.Inflow max64 max32 inflow ws
kind_call of.Share ws =
    result_for_count of.Share 2 ws
    (and_then (ok_or (rule_by_word (word_at ws 1)) NotRule) (λ r.
    Ok (share (word_at ws 0) r)))
kind_call of.Abandon ws = result_for_count of.Abandon 0 ws (Ok abandon)
kind_call of.Read ws = two_number_call of.Read max32 max32 read ws
kind_call of.Book ws = one_number_call of.Book book ws
kind_call of.HandOver ws = two_number_call of.HandOver max32 max32 hand_over ws
kind_call of.Withdraw ws = one_number_call of.Withdraw withdraw ws
kind_call of.Quantity ws = one_number_call of.Quantity quantity ws

-- the call that the words of a line say: none where there are no words
abbrev pub call_of : List (List ℕ) → Result (Option PlainCall) Fault
call_of ws =
    cond (length ws == 0)
    (Ok None)
    (and_then (ok_or (kind_by_word (word_at ws 0)) UnknownCall) (λ k.
    and_then (kind_call k (drop 1 ws)) (λ s.
    Ok (Some s))))
