use Rattle.std.proofs.Common.{sym, subst, IfOk}
use Rattle.trop_files.specs.Views.{at_text_of}
use Rattle.tplib_tangent.specs.Tangent.{IsTangentFile}
use Rattle.tplib_tangent.proofs.tangent.file_reply.Goals as goal

pub returns-in-Max : goal.returns-in-Max
returns-in-Max c = subst (λ f. IfOk c.at_reply.result
    (λ reply. IsTangentFile (at_text_of f) reply.yes reply.text.items)) (sym c.in-Max.is) c.at_reply.ensures

pub returns-in-Min : goal.returns-in-Min
returns-in-Min c = subst (λ f. IfOk c.at_reply-in-Min.result
    (λ reply. IsTangentFile (at_text_of f) reply.yes reply.text.items)) (sym c.in-Min.is) c.at_reply-in-Min.ensures

pub returns-in-Bool : goal.returns-in-Bool
returns-in-Bool c = subst (λ f. IfOk c.at_reply-in-Bool.result
    (λ reply. IsTangentFile (at_text_of f) reply.yes reply.text.items)) (sym c.in-Bool.is) c.at_reply-in-Bool.ensures
