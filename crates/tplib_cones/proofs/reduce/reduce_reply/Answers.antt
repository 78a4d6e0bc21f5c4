use Rattle.trop_files.specs.Views.{generator_file_of}
use Rattle.trop_files.proofs.ReadSizes.{file_small}
use Rattle.tplib_cones.proofs.reduce.reduce_reply.Goals as goal

pub reduced_file-requires-clause-sizes : goal.reduced_file-requires-clause-sizes
reduced_file-requires-clause-sizes c = file_small _ _ c.in_ok-file.ensures.found

pub returns-clause-reply : goal.returns-clause-reply
returns-clause-reply c = record {
  said = generator_file_of c.in_ok-file.file;
  spelled = c.in_ok-file.ensures.found;
  unstopped = λ cause stop h. h;
  answer = c.in_ok-text.ensures;
}
