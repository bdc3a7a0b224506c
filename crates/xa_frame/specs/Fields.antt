-- A field that isn't there, as a content's fault.
use Rattle.std.specs.Prelude.{Result, Ok, Err}
use Rattle.xa_fields.specs.declared.fault.FieldFault.{FieldFault}
use Rattle.xa_fields.specs.declared.fault.FieldFault.TheVariants.{Cut, Limit}
use Rattle.xa_frame.specs.declared.fault.FrameFault.{FrameFault}
use Rattle.xa_frame.specs.declared.fault.FrameFault.TheVariants.{Short, Field}

abbrev pub fault_of_field : FieldFault → FrameFault
fault_of_field Cut = Short
fault_of_field Limit = Field

abbrev pub of_field : {A : Type 0} → Result A FieldFault → Result A FrameFault
of_field (Ok x) = Ok x
of_field (Err e) = Err (fault_of_field e)
