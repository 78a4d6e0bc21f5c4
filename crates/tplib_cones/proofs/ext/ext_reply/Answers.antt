use Rattle.std.proofs.Common.{subst}
use Rattle.trop_reading.specs.Outcome.{IsRefusal}
use Rattle.trop_files.specs.InequalityFiles.{SpellsInequalities, inequality_file_at}
use Rattle.trop_files.specs.Views.{IsOpenedAny}
use Rattle.tplib_reply.proofs.Refused.{IsRefused-text}
use Rattle.tplib_cones.specs.Ext.{ext_meaning}
use Rattle.tplib_cones.proofs.LineByLine.{reply_from, refused_from}
use Rattle.tplib_cones.proofs.ext.ext_reply.Goals as goal

pub returns-in-Ok-Max-clause-reply : goal.returns-in-Ok-Max-clause-reply
returns-in-Ok-Max-clause-reply c =
    let opened = subst (IsOpenedAny c.args.bytes.now) c.in-Ok-Max.field-0-is c.in-Ok-Max.ensures.opened in
    reply_from c.args.bytes.now c.in-Ok-Max.lines.bytes opened.bytes c.converted.result c.converted.ensures.reply

pub returns-in-Ok-Max-clause-refused : goal.returns-in-Ok-Max-clause-refused
returns-in-Ok-Max-clause-refused c =
    let opened = subst (IsOpenedAny c.args.bytes.now) c.in-Ok-Max.field-0-is c.in-Ok-Max.ensures.opened in
    refused_from c.args.bytes.now c.in-Ok-Max.lines.bytes opened.bytes c.converted.result c.converted.ensures.refused

pub returns-in-Ok-Min-clause-reply : goal.returns-in-Ok-Min-clause-reply
returns-in-Ok-Min-clause-reply c =
    let opened = subst (IsOpenedAny c.args.bytes.now) c.in-Ok-Min.field-0-is c.in-Ok-Min.ensures.opened in
    reply_from c.args.bytes.now c.in-Ok-Min.lines.bytes opened.bytes c.converted-in-Ok-Min.result
    c.converted-in-Ok-Min.ensures.reply

pub returns-in-Ok-Min-clause-refused : goal.returns-in-Ok-Min-clause-refused
returns-in-Ok-Min-clause-refused c =
    let opened = subst (IsOpenedAny c.args.bytes.now) c.in-Ok-Min.field-0-is c.in-Ok-Min.ensures.opened in
    refused_from c.args.bytes.now c.in-Ok-Min.lines.bytes opened.bytes c.converted-in-Ok-Min.result
    c.converted-in-Ok-Min.ensures.refused

pub returns-in-Ok-Bool-clause-reply : goal.returns-in-Ok-Bool-clause-reply
returns-in-Ok-Bool-clause-reply c =
    let opened = subst (IsOpenedAny c.args.bytes.now) c.in-Ok-Bool.field-0-is c.in-Ok-Bool.ensures.opened in
    reply_from c.args.bytes.now c.in-Ok-Bool.lines.bytes opened.bytes c.converted-in-Ok-Bool.result
    c.converted-in-Ok-Bool.ensures.reply

pub returns-in-Ok-Bool-clause-refused : goal.returns-in-Ok-Bool-clause-refused
returns-in-Ok-Bool-clause-refused c =
    let opened = subst (IsOpenedAny c.args.bytes.now) c.in-Ok-Bool.field-0-is c.in-Ok-Bool.ensures.opened in
    refused_from c.args.bytes.now c.in-Ok-Bool.lines.bytes opened.bytes c.converted-in-Ok-Bool.result
    c.converted-in-Ok-Bool.ensures.refused

pub returns-in-Err-clause-refused : goal.returns-in-Err-clause-refused
returns-in-Err-clause-refused c =
    IsRefused-text ext_meaning c.args.bytes.now c.in-Err.e c.from.result c.from.ensures
    (λ f same. subst (IsRefusal SpellsInequalities inequality_file_at c.args.bytes.now) same c.in-Err.ensures.fault)
