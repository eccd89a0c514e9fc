-- What holds of readings in each of the two notations holds of readings in either.
use Rattle.ig_command.specs.declared.command.Notation.TheVariants as notation
use Rattle.ig_notation.specs.Outcome as own
use Rattle.ig_w3c.specs.Laws as w3c
use Rattle.ig_command_sources.specs.Laws.{OneReading, ReadGrammarsAreRegular, ReadGrammarsAreWritten, ReadGrammarsHaveReadings, ReadNamesAreNames, ReadOrRefused}

pub either_one_reading : own.OneReading → w3c.OneReading → OneReading
either_one_reading a b notation.Own = a
either_one_reading a b notation.W3c = b

pub either_texts_are_read_or_refused : own.ReadOrRefused → w3c.ReadOrRefused → ReadOrRefused
either_texts_are_read_or_refused a b notation.Own = a
either_texts_are_read_or_refused a b notation.W3c = b

pub either_read_grammars_are_regular : own.ReadGrammarsAreRegular → w3c.ReadGrammarsAreRegular → ReadGrammarsAreRegular
either_read_grammars_are_regular a b notation.Own = a
either_read_grammars_are_regular a b notation.W3c = b

pub either_read_names_are_names : own.ReadNamesAreNames → w3c.ReadNamesAreNames → ReadNamesAreNames
either_read_names_are_names a b notation.Own = a
either_read_names_are_names a b notation.W3c = b

pub either_read_grammars_are_written : own.ReadGrammarsAreWritten → w3c.ReadGrammarsAreWritten → ReadGrammarsAreWritten
either_read_grammars_are_written a b notation.Own = a
either_read_grammars_are_written a b notation.W3c = b

pub printable : w3c.ReadGrammarsHaveReadings → ReadGrammarsHaveReadings
printable law xs g text = law xs g text.utf8 text.reading
