-- What single tokens of a report stand for.
use Rattle.std.specs.Prelude.{ℕ}
use Rattle.trop_text.specs.Digits.{number_of}
use Rattle.prog_theory.specs.Graph as graph
use Rattle.report_texts.specs.LineTexts as spec
use Rattle.report_reading.specs.declared.words.Number.{Number}
use Rattle.report_reading.specs.declared.words.Label.{Label}
use Rattle.report_reading.specs.declared.words.Label.TheVariants as labels
use Rattle.report_reading.specs.declared.words.LabelWord.{LabelWord}
use Rattle.report_reading.specs.declared.words.LabelWord.TheVariants as label_words

abbrev pub number_in : Number → ℕ
number_in n = number_of n.digits.now

abbrev pub label_word_of : LabelWord → spec.Label
label_word_of label_words.Statement = spec.OfStatement
label_word_of label_words.Inner = spec.Alone graph.Inner
label_word_of label_words.Exit = spec.Alone graph.Exit

abbrev pub label_of : Label → graph.Point
label_of (labels.Statement n) = graph.Statement (number_in n)
label_of labels.Inner = graph.Inner
label_of labels.Exit = graph.Exit
