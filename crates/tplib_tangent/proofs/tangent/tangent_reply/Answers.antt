use Rattle.std.proofs.Common.{subst}
use Rattle.trop_reading.specs.Outcome.{IsRefusal}
use Rattle.trop_files.specs.AtFiles.{SpellsAt, at_file_at}
use Rattle.trop_files.specs.Views.{at_text_of}
use Rattle.trop_files.proofs.ReadSizes.{at_visible}
use Rattle.tplib_reply.proofs.Refused.{IsRefused-text, IsRefused-memory}
use Rattle.tplib_tangent.specs.Tangent.{tangent_meaning}
use Rattle.tplib_tangent.proofs.tangent.tangent_reply.Goals as goal

pub file_reply-requires-clause-sizes : goal.file_reply-requires-clause-sizes
file_reply-requires-clause-sizes c = at_visible _ _ c.in_ok-file.ensures.found

pub returns-clause-reply : goal.returns-clause-reply
returns-clause-reply c = record {
  said = at_text_of c.in_ok-file.file;
  spelled = c.in_ok-file.ensures.found;
  unstopped =
      λ cause stop h. h;
  answer = c.in_ok-reply.ensures;
}
