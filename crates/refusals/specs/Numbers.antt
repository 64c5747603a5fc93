-- The number of each refusal, assigned here and nowhere else.
use Rattle.std.specs.Prelude.{ℕ}
use Rattle.refusals.specs.declared.Refusal.{Refusal}
use Rattle.refusals.specs.declared.Refusal.TheVariants.{PointSheetLength, WorkSheetLength, NoSuchTrader, NoSuchPoint, Weather, Litres, Particulars, ProfileSheet, NoSuchDay, Energy, ForeignSheet, NotRunning, NotOpenSlip, DayRunning, NoMoreDays, TooMuchMetered, InflowTooSmall, NoPlace, SlipOpen, NoMoreReadings, SameTrader, SlipOpenAtShareOut, SegmentNotServed, NoWeight}

abbrev pub number_of : Refusal → ℕ
number_of PointSheetLength = 1
number_of WorkSheetLength = 2
number_of NoSuchTrader = 3
number_of NoSuchPoint = 4
number_of Weather = 5
number_of Litres = 6
number_of Particulars = 7
number_of ProfileSheet = 8
number_of NoSuchDay = 9
number_of Energy = 10
number_of ForeignSheet = 11
number_of NotRunning = 20
number_of NotOpenSlip = 21
number_of DayRunning = 22
number_of NoMoreDays = 23
number_of TooMuchMetered = 24
number_of InflowTooSmall = 25
number_of NoPlace = 26
number_of SlipOpen = 27
number_of NoMoreReadings = 28
number_of SameTrader = 29
number_of SlipOpenAtShareOut = 30
number_of SegmentNotServed = 31
number_of NoWeight = 32
