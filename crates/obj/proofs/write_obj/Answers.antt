use mathlib.Core.Path.{refl, sym, ◌∙◌}
use native.Mathlib.Omega.{arith}
use Rattle.obj.proofs.Lines.{Has, has_of, long-is, refused-25, refused-22, written, both-put}
use Rattle.obj.proofs.write_obj.Lts
use Rattle.obj.proofs.write_obj.Reads
use Rattle.obj.proofs.write_obj.Tie
use Rattle.obj.proofs.write_obj.Goals as goal

abbrev Else-not-objable : Type 0
Else-not-objable = Lts.Else1 Tie.the-claims Reads.Pre Reads.Post

able : (k : Else-not-objable) → Has k.args.coords.now k.args.corners.now
able k = has_of _ _ (sym k.objable.ensures ∙ k.if-not-objable.false)

pub returns-then-not-objable : goal.returns-then-not-objable
returns-then-not-objable c = record { answer = refused-25 _ _ _ (sym c.objable.ensures ∙ c.if-not-objable.true); text = refl }

pub vertex_lengths-requires : goal.vertex_lengths-requires
vertex_lengths-requires c = ((able c.before).few-vertices, omega arith)

pub face_lengths-requires : goal.face_lengths-requires
face_lengths-requires c = let h = able c.before.before in ((h.few-faces, omega arith), h.small)

pub overflow_add-n : goal.overflow_add-n
overflow_add-n c = let h = able c.before.before.before in omega (arith, h.few-vertices, h.few-faces)

pub returns-then-text-n : goal.returns-then-text-n
returns-then-text-n c = record { answer = refused-22 _ _ _ _ (able c.before.before.before.before).has (long-is _ _ _ _ c.vertex_lengths.ensures.0 c.face_lengths.ensures.0) c.if-text-n.true; text = refl }

pub put_faces-requires : goal.put_faces-requires
put_faces-requires c = ((omega arith, (able c.before.before.before.before.before.before.before.before.before).small), omega (arith, c.put_vertices-at.ensures.next-is, c.put_vertices-at.auto.text, c.if-text-n.false))

pub overflow_cast-result : goal.overflow_cast-result
overflow_cast-result c = let h = able c.before.before.before.before.before.before.before.before.before.before.before.before in omega (arith, h.few-vertices, h.few-faces)

pub returns : goal.returns
returns c = record {
  answer = written _ _ _ _ (able c.before.before.before.before.before.before.before.before.before.before.before.before).has (long-is _ _ _ _ c.vertex_lengths.ensures.0 c.face_lengths.ensures.0) c.if-text-n.false;
  text = both-put _ _ c.put_vertices-at.ensures c.put_faces.ensures;
}
