use Rattle.peer_make.proofs.signing.take_uses.Goals as goal

pub returns-in-Err-NoMemory-clause-read_faults : goal.returns-in-Err-NoMemory-clause-read_faults
returns-in-Err-NoMemory-clause-read_faults g c =
    let counts = rw c.in-Err-NoMemory.field-0-is at c.in-Err-NoMemory.ensures.counts in
    counts.read_faults

pub returns-in-Err-NoMemory-clause-write_faults : goal.returns-in-Err-NoMemory-clause-write_faults
returns-in-Err-NoMemory-clause-write_faults g c =
    let counts = rw c.in-Err-NoMemory.field-0-is at c.in-Err-NoMemory.ensures.counts in
    counts.write_faults
