use Rattle.plateobj.proofs.Laws.{put-bytes, never-refused}
use borrow.Author.Rules.{rules}
use Rattle.plateobj.proofs.written.Goals as goal

pub returns-in-Ok : goal.returns-in-Ok
returns-in-Ok c =
    let p = put-bytes _ _ _ _ _ _ c.write_obj.ensures.answer c.in-Ok.is c.write_obj.ensures.text in
    record { put = p.0; upper_bound = p.1 }

pub returns-in-Err : goal.returns-in-Err
returns-in-Err c = absurd (never-refused _ _ _ _ _ c.requires.0 c.requires.1 c.write_obj.ensures.answer c.in-Err.is)
