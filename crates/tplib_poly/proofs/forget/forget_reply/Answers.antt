use Rattle.std.proofs.Common.{◌≡◌, ◌∙◌, sym, subst, inl}
use Rattle.trop_reading.specs.Outcome.{IsRefusal}
use Rattle.trop_files.specs.Generators.{SpellsGenerators, generator_file_at}
use Rattle.trop_files.specs.Views.{generator_file_of}
use Rattle.trop_files.proofs.ReadSizes.{gens_held}
use Rattle.tplib_reply.proofs.Refused.{IsRefused-text}
use Rattle.tplib_poly.specs.Forget.{forget_meaning}
use Rattle.tplib_poly.proofs.ForgetReplies.{unknown_name, forget_replied, forget_refusal}
use Rattle.tplib_poly.proofs.forget.forget_reply.Goals as goal

pub forgotten_file-requires-clause-rows : goal.forgotten_file-requires-clause-rows
forgotten_file-requires-clause-rows c = (gens_held _ _ c.in_ok-file.ensures.found).rows_are

pub returns-in-Some-clause-reply : goal.returns-in-Some-clause-reply
returns-in-Some-clause-reply c =
    forget_replied c.args.var.now c.args.bytes.now (generator_file_of c.in_ok-file.file) c.in_ok-file.ensures.found
    c.in-Some.place (sym c.in-Some.ensures) c.forgotten_file.result c.forgotten_file.ensures.reply

pub returns-in-Some-clause-refused : goal.returns-in-Some-clause-refused
returns-in-Some-clause-refused c =
    forget_refusal c.args.var.now c.args.bytes.now (generator_file_of c.in_ok-file.file) c.in_ok-file.ensures.found
    c.in-Some.place (sym c.in-Some.ensures) c.forgotten_file.result c.forgotten_file.ensures.refused

pub returns-clause-refused : goal.returns-clause-refused
returns-clause-refused c =
    unknown_name c.args.var.now c.args.bytes.now (generator_file_of c.in_ok-file.file) c.in_ok-file.ensures.found
    (sym c.in-None.ensures) c.vars_line.result c.vars_line.ensures
