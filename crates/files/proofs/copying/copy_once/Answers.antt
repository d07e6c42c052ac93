use Rattle.std.proofs.Common.{subst, sym, ◌∙◌}
use Rattle.files.specs.Copying.{InCall, ReadsHeader, CopiesLog, MissesLog}
use Rattle.files.proofs.Accounts.{bare, with_log, without_log, gone, InCall-yes, InCall-no}
use Rattle.files.proofs.copying.copy_once.Goals as goal
use Rattle.files.proofs.copying.copy_once.Goals.{else-has_log-via-then-has_log+in_ok-copy_wal+else-not-branch, else-has_log-via-else-has_log}

pub returns : goal.returns
returns g c =
    let account = g.F.FilesInUse.account in
    let start = account c.args.files.now in
    let head = c.in_ok-before.before in
    let later = c.in_ok-header.field-0 in
    let removed = account c.remove_wal.new.self in
    let last = account c.header-2.new.self in
    let has = bare head start (account c.header.new.self) (account c.copy_file.new.self) removed c.in_ok-before.ensures c.in_ok-copy_file.ensures c.in_ok-remove_wal.ensures in
    elim c.else-has_log.branch [
      | else-has_log-via-then-has_log+in_ok-copy_wal+else-not-branch w ↦
          with_log head later c.eq.result start removed (account w.copy_wal.new.self) last (sym c.is_some-has_log.ensures ∙ w.if-has_log.true) c.eq.ensures has
          (InCall-yes w.in_ok-copy_wal.field-0 CopiesLog MissesLog removed (account w.copy_wal.new.self) w.if-not-branch.false w.in_ok-copy_wal.ensures)
          (subst (λ files. InCall (ReadsHeader later) (account files) last) w.files-is c.in_ok-header.ensures)
      | else-has_log-via-else-has_log w ↦
          without_log head later c.eq.result start removed last (sym c.is_some-has_log.ensures ∙ w.if-has_log.false) c.eq.ensures has
          (subst (λ files. InCall (ReadsHeader later) (account files) last) w.files-is c.in_ok-header.ensures)
    ]

pub returns-then-not-branch : goal.returns-then-not-branch
returns-then-not-branch g c =
    let account = g.F.FilesInUse.account in
    let start = account c.args.files.now in
    let head = c.in_ok-before.before in
    let removed = account c.remove_wal.new.self in
    let last = account c.copy_wal.new.self in
    let has = bare head start (account c.header.new.self) (account c.copy_file.new.self) removed c.in_ok-before.ensures c.in_ok-copy_file.ensures c.in_ok-remove_wal.ensures in
    gone head start removed last (sym c.is_some-has_log.ensures ∙ c.if-has_log.true) has
    (InCall-no c.in_ok-copy_wal.field-0 CopiesLog MissesLog removed last c.if-not-branch.true c.in_ok-copy_wal.ensures)
