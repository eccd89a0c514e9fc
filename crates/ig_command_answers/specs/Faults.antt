-- The fault of a listing for that of reading a cursor, and for that of a walk.
use Rattle.ig_show_trees.specs.declared.cursor_text.CursorFault.{CursorFault}
use Rattle.ig_show_trees.specs.declared.cursor_text.CursorFault.TheVariants as cursor_fault
use Rattle.ig_walker.specs.declared.walker.WalkFault.{WalkFault}
use Rattle.ig_walker.specs.declared.walker.WalkFault.TheVariants as walk_fault
use Rattle.ig_command_answers.specs.declared.fault.ListFault.{ListFault}
use Rattle.ig_command_answers.specs.declared.fault.ListFault.TheVariants as list_fault

abbrev pub fault_of_cursor : CursorFault → ListFault
fault_of_cursor cursor_fault.NotACursor = list_fault.NoCursor
fault_of_cursor cursor_fault.Memory = list_fault.Memory

abbrev pub fault_of_walk : WalkFault → ListFault
fault_of_walk walk_fault.BadCursor = list_fault.NoCursor
fault_of_walk walk_fault.Memory = list_fault.Memory
