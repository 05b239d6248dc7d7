-- The codes by which a refusal names a fault of a line by itself.
use Rattle.evac_law.specs.declared.code.Code.{Code}
use Rattle.evac_law.specs.declared.code.Code.TheVariants as codes
use Rattle.model_text.specs.declared.fault.TextFault.{TextFault}
use Rattle.model_text.specs.declared.fault.TextFault.TheVariants.{UnknownWord, FieldCount, BadNumber, OutOfRange, BadName, UnknownCommand}

-- the code of a fault
abbrev pub text_fault_code : TextFault → Code
text_fault_code UnknownWord = codes.UnknownWord
text_fault_code FieldCount = codes.FieldCount
text_fault_code BadNumber = codes.BadNumber
text_fault_code OutOfRange = codes.OutOfRange
text_fault_code BadName = codes.BadName
text_fault_code UnknownCommand = codes.UnknownCommand
