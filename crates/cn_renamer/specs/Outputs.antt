-- How much of its text a job has written that met a fault.
use Rattle.cn_texts.specs.Writing.Written.{Written, First, Nothing}
use Rattle.cn_renamer.specs.declared.output_fault.OutputFault.{OutputFault}
use Rattle.cn_renamer.specs.declared.output_fault.OutputFault.TheVariants.{Memory, Write}

-- nothing for want of memory, and if a write failed, the bytes that its fault states
abbrev pub until_output : OutputFault → Written
until_output Memory = Nothing
until_output (Write written) = First written
