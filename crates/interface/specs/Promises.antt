-- What each public function promises: the one predicate that its contract cites.
-- Assumes nothing.
use Rattle.std.specs.Prelude.{List, ℕ}
use Rattle.interface.specs.CaptureCalls.{import_call}
use Rattle.interface.specs.ControllerCalls.{Leaves, reset_call, transfer_call}
use Rattle.interface.specs.Filling.{Fills}
use Rattle.interface.specs.LineCalls.{read_call, write_call}
use Rattle.interface.specs.PictureCalls.{picture_call}
use Rattle.interface.specs.PlanCalls.{plan_call}

-- `yaropesk_reset`: the number returned and every byte of the record and of the memory.
abbrev pub YaropeskResetPromise : List ℕ → List ℕ → ℕ → List ℕ → List ℕ → Type 0
YaropeskResetPromise bytes mem returned left after = Leaves (reset_call bytes mem) returned left after

-- `yaropesk_transfer`: the number returned and every byte of the record and of the memory.
abbrev pub YaropeskTransferPromise : List ℕ → List ℕ → ℕ → ℕ → ℕ → ℕ → List ℕ → List ℕ → Type 0
YaropeskTransferPromise bytes mem kind byte wait returned left after =
    Leaves (transfer_call bytes mem kind byte wait) returned left after

-- `yaropesk_picture`: the number returned and every byte of the output.
abbrev pub YaropeskPicturePromise : List ℕ → List ℕ → ℕ → ℕ → ℕ → ℕ → List ℕ → ℕ → List ℕ → Type 0
YaropeskPicturePromise bytes mem profile columns lines lit out returned after =
    Fills (picture_call bytes mem profile columns lines lit out) returned after

-- `yaropesk_plan`: the number returned and every byte of the buffer.
abbrev pub YaropeskPlanPromise : List ℕ → List ℕ → List ℕ → List ℕ → ℕ → List ℕ → Type 0
YaropeskPlanPromise wish marks values out returned after = Fills (plan_call wish marks values out) returned after

-- `yaropesk_write_line`: the number returned and every byte of the buffer.
abbrev pub YaropeskWriteLinePromise : ℕ → ℕ → ℕ → List ℕ → ℕ → List ℕ → Type 0
YaropeskWriteLinePromise kind byte wait out returned after = Fills (write_call kind byte wait out) returned after

-- `yaropesk_read_line`: the number returned and every byte of the buffer.
abbrev pub YaropeskReadLinePromise : List ℕ → List ℕ → ℕ → List ℕ → Type 0
YaropeskReadLinePromise text out returned after = Fills (read_call text out) returned after

-- `yaropesk_import`: the number returned and every byte of the buffer.
abbrev pub YaropeskImportPromise : List ℕ → List ℕ → ℕ → List ℕ → Type 0
YaropeskImportPromise capture out returned after = Fills (import_call capture out) returned after
