-- The numbers of codes: what is wrong is named by its code everywhere, and only where it is printed by its number.
use Rattle.std.specs.Prelude.{ℕ}
use Rattle.evac_law.specs.declared.code.Code.{Code}
use Rattle.evac_law.specs.declared.code.Code.TheVariants.{FirstLine, LineTooLong, InputTooLong, UnknownWord, FieldCount, BadNumber, OutOfRange, BadName, RepeatedSetting, UnknownFloor, RepeatedNode, OverFull, UnknownNode, SameNode, FromExit, RepeatedArc, TooMany, MissingSetting, NoExit, TooLarge, MissingEnd, NotCleared, TextAfterEnd, BadWindow, WindowOverlap, TooManyWindows, NoWindow, EntrantLate, RepeatedEntrant, UnknownCommand, NoArc, NoPeriod, AlreadyShut, AlreadyOpen, NotExit, ExitNamed, TooFew, NothingToUndo, UnknownWords, BadMoment, Committed, BadBlock, PeopleWrong, RateBroken, HeldBroken, NotAllOut, OutWrong, CutWrong}

-- the number by which a code is printed
abbrev pub code_number : Code → ℕ
code_number FirstLine = 1
code_number LineTooLong = 2
code_number InputTooLong = 3
code_number UnknownWord = 4
code_number FieldCount = 5
code_number BadNumber = 6
code_number OutOfRange = 7
code_number BadName = 8
code_number RepeatedSetting = 9
code_number UnknownFloor = 10
code_number RepeatedNode = 11
code_number OverFull = 12
code_number UnknownNode = 13
code_number SameNode = 14
code_number FromExit = 15
code_number RepeatedArc = 16
code_number TooMany = 17
code_number MissingSetting = 18
code_number NoExit = 19
code_number TooLarge = 20
code_number MissingEnd = 21
code_number NotCleared = 22
code_number TextAfterEnd = 23
code_number BadWindow = 24
code_number WindowOverlap = 25
code_number TooManyWindows = 26
code_number NoWindow = 27
code_number EntrantLate = 28
code_number RepeatedEntrant = 29
code_number UnknownCommand = 31
code_number NoArc = 32
code_number NoPeriod = 33
code_number AlreadyShut = 34
code_number AlreadyOpen = 35
code_number NotExit = 36
code_number ExitNamed = 37
code_number TooFew = 38
code_number NothingToUndo = 39
code_number UnknownWords = 40
code_number BadMoment = 41
code_number Committed = 42
code_number BadBlock = 51
code_number PeopleWrong = 52
code_number RateBroken = 53
code_number HeldBroken = 54
code_number NotAllOut = 55
code_number OutWrong = 56
code_number CutWrong = 57
