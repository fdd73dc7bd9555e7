use Rattle.voice_log.specs.Log.{written_lines, serials}
use Rattle.voice_log.specs.Written.{told_stop}
use Rattle.voice_log.proofs.log.VoiceLog.finish.Goals as goal

pub returns-clause-stopped : goal.returns-clause-stopped
returns-clause-stopped c = λ h. told_stop (written_lines c.args.self) (serials c.args.self) h.told
