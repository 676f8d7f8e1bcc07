use Rattle.link_arena.proofs.vacant.fill.Goals as goal

pub fill_at-next-requires : goal.fill_at-next-requires
fill_at-next-requires g c = rw c.as_mut_slice.ensures.value (c.requires.vacant _ c.in-Some.is)
