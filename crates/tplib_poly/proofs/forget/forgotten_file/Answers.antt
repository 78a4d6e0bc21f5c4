use Rattle.std.proofs.Common.{sym, subst, IfOk}
use Rattle.std.specs.Prelude.{IfErr}
use Rattle.trop_files.specs.Views.{generator_file_of}
use Rattle.tplib_poly.specs.InRing.{IsOverReply, IsOverRefusal}
use Rattle.tplib_poly.specs.Forget.{forget_ring}
use Rattle.tplib_poly.proofs.forget.forgotten_file.Goals as goal

pub returns-in-Max-clause-reply : goal.returns-in-Max-clause-reply
returns-in-Max-clause-reply c =
    subst (λ f. IfOk c.forgotten.result (λ reply. IsOverReply (forget_ring c.args.place) (generator_file_of f).names
    (generator_file_of f).rows reply.yes reply.text.items)) (sym c.in-Max.is) c.forgotten.ensures.reply

pub returns-in-Max-clause-refused : goal.returns-in-Max-clause-refused
returns-in-Max-clause-refused c =
    subst (λ f. IfErr c.forgotten.result (IsOverRefusal (forget_ring c.args.place) (generator_file_of f).names
    (generator_file_of f).rows)) (sym c.in-Max.is) c.forgotten.ensures.refused

pub returns-in-Min-clause-reply : goal.returns-in-Min-clause-reply
returns-in-Min-clause-reply c =
    subst (λ f. IfOk c.forgotten-in-Min.result (λ reply. IsOverReply (forget_ring c.args.place)
    (generator_file_of f).names (generator_file_of f).rows reply.yes reply.text.items))
    (sym c.in-Min.is) c.forgotten-in-Min.ensures.reply

pub returns-in-Min-clause-refused : goal.returns-in-Min-clause-refused
returns-in-Min-clause-refused c =
    subst (λ f. IfErr c.forgotten-in-Min.result (IsOverRefusal (forget_ring c.args.place) (generator_file_of f).names
    (generator_file_of f).rows)) (sym c.in-Min.is) c.forgotten-in-Min.ensures.refused

pub returns-in-Bool-clause-reply : goal.returns-in-Bool-clause-reply
returns-in-Bool-clause-reply c =
    subst (λ f. IfOk c.forgotten-in-Bool.result (λ reply. IsOverReply (forget_ring c.args.place)
    (generator_file_of f).names (generator_file_of f).rows reply.yes reply.text.items))
    (sym c.in-Bool.is) c.forgotten-in-Bool.ensures.reply

pub returns-in-Bool-clause-refused : goal.returns-in-Bool-clause-refused
returns-in-Bool-clause-refused c =
    subst (λ f. IfErr c.forgotten-in-Bool.result (IsOverRefusal (forget_ring c.args.place) (generator_file_of f).names
    (generator_file_of f).rows)) (sym c.in-Bool.is) c.forgotten-in-Bool.ensures.refused
